-- What becomes of a line that is a document: each member's walk passes its object.
use Rattle.std.proofs.Common.{◌≡◌, ◌∙◌, ◌<◌, ◌++◌, ℕ, Bool, false, List, [], ◌∷◌, ap, append_assoc, arith, length, refl}
use Rattle.std.proofs.Common.{subst}
use Rattle.std.specs.Prelude.{Err, IfOk, None, Ok, Result, Option, Some, option_map, slice_range, string_bytes}
use Rattle.jiter_steps.proofs.Grammar.Documents.{answer-of}
use Rattle.jiter.specs.Caller.{IsDocument, Node, NodeMembers, ReaderState, Reply, Text, at_start, begin, end, gave}
use Rattle.jiter.specs.Caller.{key_step, next, reply_seen, value_of, value_place, whole, with_position}
use Rattle.jiter.proofs.Telling.{object-refused, tells}
use Rattle.jiter.proofs.Walking.{ComesNext, IsNoObject, KeyTold, MembersLeft, document-next, finish-ends, key-tells}
use Rattle.jiter.proofs.Walking.{object-tells, sees-whole, whole_key}
use Rattle.json_lines.specs.Line.{Seen, seen, written}
use Rattle.json_lines.specs.declared.line.Outcome.{Outcome}
use Rattle.filter.specs.Line.{BecomesBy, LineBecomes, PartBecomes, found_outcome, line_text, outcome_of, part_by}
use Rattle.filter.specs.Line.{part_text, pointed_outcome, refused_at}
use Rattle.filter.specs.Members.{Fails, Finds, Passed, is_name, key_is, last_source, no_object, part_read, source_of}
use Rattle.filter.specs.Members.{with_value}
use Rattle.filter.specs.declared.pointers.Member.{Member}
use Rattle.filter.proofs.Decided.{one-line}
use Rattle.filter.proofs.Parts.{part-told}

module _ (name line : List ℕ) where
  abbrev s0 : ReaderState
  s0 = at_start line

  at : ℕ → ReaderState
  at i = with_position s0 i

  -- These members are left, and a call for a key replied so: they are passed.
  passes : (ms : NodeMembers) (s : ReaderState) (e : ℕ) (found : Option (List ℕ)) (r : Reply (Option Text))
      → ((i : ℕ) → with_position s i ≡ with_position s0 i) → KeyTold (whole_key line) s ms e r
      → ((key : Option Bool) (i : ℕ) → reply_seen (key_is name) r ≡ gave key i → Passed name s0 key found i)
      → Passed name s0 None (last_source name line found ms) e
  passes NodeMembers.no_members s e found r same told past = past None e (ap (reply_seen (key_is name)) told)
  passes (NodeMembers.member k v ms) s e found r same (i, is, comes, left) past =
      let here = with_position s0 i in
      let there = with_position s0 (end v) in
      let comes0 : ComesNext here v = subst (λ (u : ReaderState). ComesNext u v) (same i) comes in
      let told = tells here refl v comes0 in
      let named = is_name name line k in
      let before : Passed name s0 (Some named) found i = past (Some named) i (ap (reply_seen (key_is name)) is) in
      let read : next here (part_read named here) ≡ gave tt (end v) = part-told here named _ _ _ told in
      let cut : slice_range line (value_place here) (end v) ≡ source_of line v =
      ap (λ j. slice_range line j (end v)) told.place in
      passes ms there e (with_value named (source_of line v) found) (key_step whole there) (λ j. refl)
      (key-tells whole (whole_key line) there (sees-whole line) ms e
      (subst (λ (u : ReaderState). MembersLeft u ms e) (same (end v)) left))
      (λ key j given. subst (λ x. Passed name s0 key (with_value named x found) j) cut
      (Passed.past named found key i (end v) j before read given))

  pub document-finds : (b e : ℕ) (ms : NodeMembers) → IsDocument false line (Node.object b e ms)
      → Finds name line (last_source name line None ms)
  document-finds b e ms d =
      let comes = document-next s0 (Node.object b e ms) d refl in
      record {
        place = e;
        last = _;
        passed = passes ms s0 e None _ (λ i. refl) (object-tells whole (whole_key line) s0 (sees-whole line) b e ms comes.stands)
            (λ key i is. Passed.first key i is);
        ended = finish-ends (with_position s0 e) d.after;
      }

  pub document-fails : (n : Node) → IsDocument false line n → IsNoObject n
      → Fails name s0 (no_object line n) (begin n) (begin n)
  document-fails n d other = Fails.at_object (object-refused s0 whole n (document-next s0 n d refl) other)

-- ---- what becomes of a document
module _ (line : List ℕ) where
  part-becomes : (m : Member) (b e : ℕ) (ms : NodeMembers) → IsDocument false line (Node.object b e ms)
      → PartBecomes m line (written (part_text m line (value_of line (Node.object b e ms)) ms))
  part-becomes m b e ms d =
      subst (PartBecomes m line) (by (option_map string_bytes m.deep))
      (PartBecomes.part_found (last_source (string_bytes m.name) line None ms) (document-finds (string_bytes m.name) line b e ms d))
    where
      by : (deep : Option (List ℕ)) → found_outcome deep line (last_source (string_bytes m.name) line None ms)
          ≡ written (part_by deep (string_bytes m.name) line (value_of line (Node.object b e ms)) ms)
      by None = refl
      by (Some pointer) = ap (pointed_outcome pointer) (answer-of false line (Node.object b e ms) d)

  object-becomes : (members : List Member) (text : List ℕ) (b e : ℕ) (ms : NodeMembers)
      → IsDocument false line (Node.object b e ms)
      → LineBecomes members line text (written (text ++ line_text members line (value_of line (Node.object b e ms)) ms))
  object-becomes [] text b e ms d = refl
  object-becomes (m ∷ more) text b e ms d =
      let v = value_of line (Node.object b e ms) in
      let part = part_text m line v ms in
      let rest = line_text more line v ms in (
        written part,
        part-becomes m b e ms d,
        subst (λ x. LineBecomes more line ((text ++ m.key.items) ++ part) (written x))
            (append_assoc (text ++ m.key.items) part rest ∙ append_assoc text m.key.items (part ++ rest))
            (object-becomes more ((text ++ m.key.items) ++ part) b e ms d),
      )

  document-becomes : (members : List Member) → 0 < length members → (n : Node) → IsDocument false line n
      → LineBecomes members line [] (outcome_of members line n)
  document-becomes [] some n d = absurd (omega (arith, some))
  document-becomes (m ∷ more) some n d = by n d where
    other : (n : Node) → IsDocument false line n → IsNoObject n → LineBecomes (m ∷ more) line [] (refused_at line n)
    other n d not_one =
        (refused_at line n, PartBecomes.part_fails (no_object line n) (begin n) (begin n) (document-fails (string_bytes m.name) line n d not_one), refl)

    by : (n : Node) → IsDocument false line n → LineBecomes (m ∷ more) line [] (outcome_of (m ∷ more) line n)
    by (Node.object b e ms) d = object-becomes (m ∷ more) [] b e ms d
    by (Node.literal l b e) d = other (Node.literal l b e) d tt
    by (Node.number b e) d = other (Node.number b e) d tt
    by (Node.string ps b e) d = other (Node.string ps b e) d tt
    by (Node.array b e ns) d = other (Node.array b e ns) d tt

-- What becomes of any line is, for a document, what its members write: a line becomes one thing only.
becomes : (members : List Member) (line : List ℕ) (o : Seen) → 0 < length members → LineBecomes members line [] o
    → BecomesBy members line o
becomes members line o some any = record {
  document = λ n d. one-line members line [] o (outcome_of members line n) any (document-becomes line members some n d);
  any = any;
}

pub becomes-ok : {E : Type 0} (members : List Member) (line : List ℕ) (r : Result Outcome E) → 0 < length members
    → IfOk r (λ o. LineBecomes members line [] (seen o)) → IfOk r (λ o. BecomesBy members line (seen o))
becomes-ok members line (Ok o) some any = becomes members line (seen o) some any
becomes-ok members line (Err e) some any = tt
