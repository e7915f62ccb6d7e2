use Rattle.jiter_value.proofs.Words.{◌-◌, length, take, reverse}
use Rattle.std.proofs.Common.{rules as library_rules}
use Rattle.jiter_value.proofs.Sizes.{put-item-size, put-value-size}
use Rattle.jiter_value.proofs.StackTurns.{put-item, put-value, last-member, key-above}
use Rattle.jiter_value.proofs.parse.stacks.put_reserved.Goals as goal

pub returns-in-Item-clause-value : goal.returns-in-Item-clause-value
returns-in-Item-clause-value c =
    let s = c.args.stacks.now in
    rw (c.in-Item.is, c.push_reserved.ensures.items)
    (λ policy p t e. put-item policy p t (reverse s.nest.items) s.items.items s.members.items s.root c.args.value e
    (rw c.in-Item.is at c.requires.stands))

pub returns-in-Item-clause-held : goal.returns-in-Item-clause-held
returns-in-Item-clause-held c =
    let s = c.args.stacks.now in
    rw (c.in-Item.is, c.push_reserved.ensures.items)
    (put-item-size (reverse s.nest.items) s.items.items s.members.items s.root c.args.value
    (rw c.in-Item.is at c.requires.stands))

pub returns-in-Member : goal.returns-in-Member
returns-in-Member c =
    let s = c.args.stacks.now in
    let os = reverse s.nest.items in
    let es = s.items.items in
    let ms = s.members.items in
    let v = c.args.value in
    let last = last-member os (length es) ms (rw c.in-Member.is at c.requires.stands) in
    let before = take (length ms - 1) ms in
    let set = c.set_last.ensures.value before last.0.0 last.0.1 last.1 in
    rw c.in-Member.is (record {
      value = rw (last.1, set) (λ policy p t e. put-value policy p t os es before last.0 s.root v e last.2);
      stands = rw set (key-above os (length es) before (last.0.0, v) last.2);
      nest = search library_rules;
      held = rw (last.1, set) (put-value-size os es before last.0 s.root v last.2);
      keys = c.set_last.ensures.keys;
    })
