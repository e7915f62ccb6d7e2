use Rattle.jiter.proofs.Words.{◌≡◌, ◌∙◌, refl, sym, ap, subst, rules, arith, ◌<◌, Some, Ok, Err, option_map}
use Rattle.jiter.proofs.Words.{recursion_limit, start_of, member_view, view, json_error, owned_trees, byte_of, Reads}
use Rattle.jiter.proofs.Words.{anywhere, refused, value_reply}
use Rattle.jiter_steps.specs.declared.parse.Start.TheVariants as start
use Rattle.jiter_steps.proofs.Grammar.Sound.{array-byte, object-byte}
use Rattle.jiter_steps.proofs.Reading.Values.{inside_at-none, inside_at-starts}
use Rattle.jiter_value.proofs.Views.{view_array, view_object}
use Rattle.jiter.proofs.Building.{known-first, items-laws, members-laws}
use Rattle.jiter.proofs.Containers.{passed-on, map-pushed, array-opens, object-opens, begins}
use Rattle.jiter.proofs.Containers.{first-refused, part-refused, stuck-after, turn-ahead, goes-on, ended}
use Rattle.jiter.proofs.ReadLaws.{read-anywhere}
use Rattle.jiter.proofs.client.+build.Goals as goal

pub build_array-loop-next-init : goal.build_array-loop-next-init
build_array-loop-next-init t c =
    let s0 = c.args.jiter.now in
    let opened = read-anywhere _ (option_map byte_of) (Ok c.in_ok-next.next) c.in_ok-next.ensures.reads in
    rw c.new-items.ensures.items
    (begins (items-laws s0 c.args.levels) 91 c.requires.here
    (rw (array-opens s0 c.args.levels c.requires.here) at opened))

pub build_array-returns-in_err-item-clause-reads : goal.build_array-returns-in_err-item-clause-reads
build_array-returns-in_err-item-clause-reads t c =
    let inv = rw c.in-Some.is at c.loop-next.invariant in
    passed-on c.from_residual-in_err-item.result c.from_residual-in_err-item.ensures.1
    (part-refused (items-laws c.args.jiter.now c.args.levels) inv c.in_err-item.ensures.reads)

pub build_array-returns-in_err-next-2-clause-reads : goal.build_array-returns-in_err-next-2-clause-reads
build_array-returns-in_err-next-2-clause-reads t c =
    let inv = rw c.in-Some.is at c.loop-next.invariant in
    let stepped = read-anywhere _ (option_map byte_of) (Err c.in_err-next-2.field-0.0) c.in_err-next-2.ensures.reads in
    passed-on c.from_residual-in_err-next-2.result c.from_residual-in_err-next-2.ensures.1
    (stuck-after (items-laws c.args.jiter.now c.args.levels) inv c.in_ok-item.ensures.reads stepped)

pub build_array-loop-next-smaller : goal.build_array-loop-next-smaller
build_array-loop-next-smaller t c =
    let inv = rw c.in-Some.is at c.loop-next.invariant in
    turn-ahead (items-laws c.args.jiter.now c.args.levels) inv c.in_ok-item.ensures.reads c.in_ok-next-2.ensures.reads.moves

pub build_array-loop-next-preserved : goal.build_array-loop-next-preserved
build_array-loop-next-preserved t c =
    let inv = rw c.in-Some.is at c.loop-next.invariant in
    let stepped = read-anywhere _ (option_map byte_of) (Ok c.in_ok-next-2.next) c.in_ok-next-2.ensures.reads in
    goes-on (items-laws c.args.jiter.now c.args.levels) inv c.in_ok-item.ensures.reads stepped
    (map-pushed view _ _ _ c.in_default-push.ensures.ok)

pub build_array-returns-clause-reads : goal.build_array-returns-clause-reads
build_array-returns-clause-reads t c =
    let inv = rw c.in_default.is at c.loop-next.invariant in
    ended (items-laws c.args.jiter.now c.args.levels) inv (view_array c.loop-next.items)

pub build_object-returns-in_err-next-clause-reads : goal.build_object-returns-in_err-next-clause-reads
build_object-returns-in_err-next-clause-reads t c =
    let s0 = c.args.jiter.now in
    let opened = rw (object-opens s0 c.args.levels c.requires.here) at c.in_err-next.ensures.reads in
    passed-on c.from_residual.result c.from_residual.ensures.1
    (first-refused (members-laws s0 c.args.levels) 123 c.requires.here opened)

pub build_object-loop-next-init : goal.build_object-loop-next-init
build_object-loop-next-init t c =
    let s0 = c.args.jiter.now in
    let opened = rw (object-opens s0 c.args.levels c.requires.here) at c.in_ok-next.ensures.reads in
    rw c.new-members.ensures.items
    (begins (members-laws s0 c.args.levels) 123 c.requires.here opened)

pub build_object-returns-in_err-value-clause-reads : goal.build_object-returns-in_err-value-clause-reads
build_object-returns-in_err-value-clause-reads t c =
    let inv = rw c.in-Some.is at c.loop-next.invariant in
    passed-on c.from_residual-in_err-value.result c.from_residual-in_err-value.ensures.1
    (part-refused (members-laws c.args.jiter.now c.args.levels) inv c.in_err-value.ensures.reads)

pub build_object-returns-in_err-next-2-clause-reads : goal.build_object-returns-in_err-next-2-clause-reads
build_object-returns-in_err-next-2-clause-reads t c =
    let inv = rw c.in-Some.is at c.loop-next.invariant in
    passed-on c.from_residual-in_err-next-2.result c.from_residual-in_err-next-2.ensures.1
    (stuck-after (members-laws c.args.jiter.now c.args.levels) inv c.in_ok-value.ensures.reads
    c.in_err-next-2.ensures.reads)

pub build_object-loop-next-smaller : goal.build_object-loop-next-smaller
build_object-loop-next-smaller t c =
    let inv = rw c.in-Some.is at c.loop-next.invariant in
    turn-ahead (members-laws c.args.jiter.now c.args.levels) inv c.in_ok-value.ensures.reads
    c.in_ok-next-2.ensures.reads.moves

pub build_object-loop-next-preserved : goal.build_object-loop-next-preserved
build_object-loop-next-preserved t c =
    let inv = rw c.in-Some.is at c.loop-next.invariant in
    goes-on (members-laws c.args.jiter.now c.args.levels) inv c.in_ok-value.ensures.reads c.in_ok-next-2.ensures.reads
    (map-pushed member_view _ _ _ c.in_default-push.ensures.ok)

pub build_object-returns-clause-reads : goal.build_object-returns-clause-reads
build_object-returns-clause-reads t c =
    let inv = rw c.in_default.is at c.loop-next.invariant in
    ended (members-laws c.args.jiter.now c.args.levels) inv (view_object c.loop-next.members)

pub build_inside-returns-then-levels-eq0 : goal.build_inside-returns-then-levels-eq0
build_inside-returns-then-levels-eq0 t c =
    let s = c.args.jiter.now in
    let at = c.current_index.ensures in
    record {
      reads = record {
        moves = record { same = refl; forward = omega arith; within = omega (arith, at.within, at.value) };
        value =
            λ m. ap value_reply
            (inside_at-none (owned_trees s.names) s.text c.args.levels s.position c.if-levels-eq0.true)
            ∙ ap (λ x. refused (json_error recursion_limit) x s.position) (sym at.value);
        index = omega (arith, at.within);
        memory = λ m. (sym at.value, tt);
      };
    }

pub build_inside-build_value-requires : goal.build_inside-build_value-requires
build_inside-build_value-requires t c = (search rules, (c.requires.whole, c.requires.here))

pub build_inside-returns : goal.build_inside-returns
build_inside-returns t c =
    let s = c.args.jiter.now in
    let some : 0 < c.args.levels = omega arith in
    let inside = inside_at-starts (owned_trees s.names) s.text c.args.levels s.position (start_of (byte_of c.args.peek))
    some (known-first s (byte_of c.args.peek) c.requires.here) in
    record {
      reads = subst (λ r. Reads anywhere view r c.build_value.result s c.build_value.new.jiter) (sym (ap value_reply inside))
          c.build_value.ensures.reads;
    }

pub build_value-build_array-requires : goal.build_value-build_array-requires
build_value-build_array-requires t c =
    let begins : start_of (byte_of c.args.peek) ≡ start.Array = ap start_of (sym c.into_inner.ensures)
    ∙ sym c.start_of.ensures ∙ c.in-Array.is in
    (search rules, (c.requires.whole, c.requires.here ∙ ap Some (array-byte (byte_of c.args.peek) begins)))

pub build_value-build_object-requires : goal.build_value-build_object-requires
build_value-build_object-requires t c =
    let begins : start_of (byte_of c.args.peek) ≡ start.Object = ap start_of (sym c.into_inner.ensures)
    ∙ sym c.start_of.ensures ∙ c.in-Object.is in
    (search rules, (c.requires.whole, c.requires.here ∙ ap Some (object-byte (byte_of c.args.peek) begins)))
