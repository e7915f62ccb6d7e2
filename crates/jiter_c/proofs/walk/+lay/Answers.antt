use Rattle.std.proofs.Common.{◌∙◌, ◌≡◌, ◌<◌, ◌+◌, ◌-◌, ap, arith, length, refl, drop}
use Rattle.jiter_steps.specs.StringDecoder.{text_view}
use Rattle.jiter_value.specs.Value.{view, views, member_views}
use Rattle.jiter_c.specs.Walk.{item_nodes, laid, member_nodes, nodes_of, texts_of}
use Rattle.jiter_c.proofs.Nodes.{item-nodes, item-texts, key-put, member-nodes, member-texts}
use Rattle.jiter_c.proofs.Appending.{to_the_end}
use Rattle.jiter_c.proofs.Laying.{laying-more, laying-room}
use Rattle.jiter_c.proofs.walk.+lay.Goals as goal

pub lay_items-loop-i-preserved : goal.lay_items-loop-i-preserved
lay_items-loop-i-preserved t c =
    let items = c.args.items.now in
    let l = c.loop-i in
    let lt : l.i < length items.items = omega (arith, items.ok.0, c.len-i-end.ensures, c.loop-i-test.true) in
    let v = c.index.result.now in
    let here = item-nodes items.items l.i v lt c.index.ensures (c.args.text + l.bytes) (c.len.result - 1 - l.i) (omega (arith, items.ok.0, c.len.ensures, lt)) in
    let bytes = item-texts items.items l.i v lt c.index.ensures in
    let put = c.lay_value-parts.ensures in
    let past : c.args.text + l.bytes + length (texts_of (view v)) ≡ c.args.text + (l.bytes + c.lay_value-parts.result.1) =
    omega (arith, put.bytes) in
    let part = nodes_of (c.args.text + l.bytes) 0 (c.len.result - 1 - l.i) (view v) in
    let rest = item_nodes (c.args.text + l.bytes + length (texts_of (view v))) (views (drop (l.i + 1) items.items)) in
    record {
      nodes =
          laying-more _ _ part rest _ l.count _ _ l.nodes _ l.invariant.nodes here
          (ap (λ k. item_nodes k (views (drop (l.i + 1) items.items))) past)
          (laying-room _ _ part rest l.count _ l.nodes l.invariant.nodes here c.requires.nodes)
          (to_the_end (laid part) l.count l.nodes _ l.invariant.nodes.within put.nodes) put.count;
      texts =
          laying-more _ _ _ _ _ l.bytes _ _ l.texts _ l.invariant.texts bytes refl
          (laying-room _ _ _ _ l.bytes _ l.texts l.invariant.texts bytes c.requires.texts)
          (to_the_end (laid _) l.bytes l.texts _ l.invariant.texts.within put.texts) put.bytes;
    }

pub lay_members-loop-i-preserved : goal.lay_members-loop-i-preserved
lay_members-loop-i-preserved t c =
    let members = c.args.members.now in
    let l = c.loop-i in
    let lt : l.i < length members.items = omega (arith, members.ok.0, c.len-i-end.ensures, c.loop-i-test.true) in
    let m = c.index-member.result.now in
    let key = c.as_bytes.result.now in
    let n = c.write_prefix-key.result in
    let named : key ≡ (text_view m.0).bytes = (c.as_bytes.ensures.value ∙ c.as_str.ensures.value) in
    let counted : n ≡ length (text_view m.0).bytes = c.write_prefix-key.ensures.whole ∙ ap length named in
    let here = member-nodes members.items l.i m lt c.index-member.ensures (c.args.text + l.bytes) (c.args.text + (l.bytes + n))
    n (c.len.result - 1 - l.i) counted (omega arith) (omega (arith, members.ok.0, c.len.ensures, lt)) in
    let bytes = member-texts members.items l.i m lt c.index-member.ensures in
    let room = laying-room _ _ _ _ l.bytes _ l.texts l.invariant.texts bytes c.requires.texts in
    let keyed = laying-more _ _ _ _ _ l.bytes n _ l.texts _ l.invariant.texts bytes refl room
    (key-put l.bytes key _ l.texts _ named l.invariant.texts.within room c.write_prefix-key.ensures.text) counted in
    let put = c.lay_value-parts.ensures in
    let past : c.args.text + (l.bytes + n) + length (texts_of (view m.1))
    ≡ c.args.text + (l.bytes + n + c.lay_value-parts.result.1) =
    omega (arith, put.bytes) in
    let part = nodes_of (c.args.text + (l.bytes + n)) n (c.len.result - 1 - l.i) (view m.1) in
    let rest = member_nodes (c.args.text + (l.bytes + n) + length (texts_of (view m.1)))
    (member_views (drop (l.i + 1) members.items)) in
    record {
      nodes =
          laying-more _ _ part rest _ l.count _ _ l.nodes _ l.invariant.nodes here
          (ap (λ k. member_nodes k (member_views (drop (l.i + 1) members.items))) past)
          (laying-room _ _ part rest l.count _ l.nodes l.invariant.nodes here c.requires.nodes)
          (to_the_end (laid part) l.count l.nodes _ l.invariant.nodes.within put.nodes) put.count;
      texts =
          laying-more _ _ _ _ _ (l.bytes + n) _ _ _ _ keyed refl refl
          (laying-room _ _ _ _ (l.bytes + n) _ _ keyed refl c.requires.texts)
          (to_the_end (laid _) (l.bytes + n) _ _ keyed.within put.texts) put.bytes;
    }
