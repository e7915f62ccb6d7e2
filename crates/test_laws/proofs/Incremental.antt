-- What the bytes so far of small documents leave open, row by row. The relation after the incremental parser holds of the
-- state that they lead to, whatever comes after them, and of no other one; after broken bytes it holds of no state.
use Rattle.std.proofs.Common.{◌≡◌, ℕ, ◌+◌, ◌<◌, ◌∙◌, List, [], ◌∷◌, ◌++◌, length, refl, sym, subst, ap, arith, codes}
use Rattle.std.proofs.Common.{append_assoc, false, length-append, pos}
use Rattle.std.proofs.Math.Seq.{get_or-append_seam}
use Rattle.std.proofs.lemmas.Option.{slice_get-get_or}
use Rattle.std.specs.Prelude.{slice_get, Some, None}
use Rattle.jiter_scan.specs.Kind.{Kind, eof_list, eof_object, eof_value, expected_value, trailing_comma}
use Rattle.jiter_scan.specs.declared.errors.FaultKind.TheVariants.{ExpectedSomeValue, TrailingComma}
use Rattle.jiter_scan.specs.declared.partial_mode.PartialMode.TheVariants.{Off}
use Rattle.jiter_scan.proofs.Choices.{if_case}
use Rattle.jiter_scan.specs.PartialMode.{is_active}
use Rattle.jiter_steps.specs.Frames.{items_frame, members_frame, parts_step, resolve_step, resume}
use Rattle.jiter_steps.specs.Read.{Container, Reading, Rules, done, fault, prefix_answer, to_end, whole_answer}
use Rattle.jiter_steps.specs.Step.{Step, stuck}
use Rattle.jiter_steps.specs.Tree.{Text, Tree, array, int, items_of, members_of, object}
use Rattle.jiter_steps.specs.declared.parse.ContainerKind.{ContainerKind}
use Rattle.jiter_steps.specs.declared.parse.ContainerKind.TheVariants as shape
use Rattle.jiter_steps.proofs.Calls.Resumed.{resume-fault, step-stuck}
use Rattle.jiter_steps.proofs.Computed.{computed_readings, computed_steps, computed_strings}
use Rattle.jiter_value.specs.Settings.{rules_as}
use Rattle.jiter_value.specs.Stacks.{PartTree}
use Rattle.jiter_value.specs.declared.parse.settings.Settings.{Settings}
use Rattle.jiter_incremental.specs.Arrived.{Arrived, HasRead, at_end, at_value, between_parts, container_of, leads_on, owned}
use Rattle.jiter_incremental.specs.Document.{Opened, ReadsAt, in_key, in_scalar}
use Rattle.jiter_incremental.specs.Between.{Everywhere, completed, text_of}
use Rattle.jiter_incremental.specs.Slot.{OpenFrame}
use Rattle.jiter_incremental.specs.declared.reader.Awaits.TheVariants as awaits
use Rattle.jiter_incremental.proofs.Between.{colon-taken, comma-taken, item-begins, key-begins, key-read, leads-blank}
use Rattle.jiter_incremental.proofs.Between.{none-read, part-ends, value-begins, value-here, value-none}

abbrev listed : List Tree → Tree
listed vs = array (items_of vs)

abbrev paired : List (Text × Tree) → Tree
paired ms = object (members_of ms)

-- an array without items, and one that has it as its item
abbrev empty : Tree
empty = listed []

abbrev around_empty : Tree
around_empty = listed (empty ∷ [])

abbrev key_a : Text
key_a = text_of (codes "a")

abbrev object_a : Tree
object_a = paired ((key_a, paired []) ∷ [])

-- the frame of an array without items, and of an object with the key alone
abbrev in_array : List OpenFrame
in_array = items_frame [] ∷ []

abbrev in_object : List OpenFrame
in_object = members_frame [] key_a ∷ []

-- What was read, and a byte that leads on wherever it is.
read-on : (p : Settings) (t : List ℕ) (c : ℕ) (s next : Arrived)
    → Everywhere c (λ p t j. completed p t s j ≡ completed p t next (j + 1))
    → HasRead p t s → HasRead p (t ++ c ∷ []) next
read-on p t c s next leads read = record {
  goes = λ u.
      let r = rules_as owned p in
      let w = t ++ c ∷ u in
      let long : length t < length w = omega (arith, length-append t (c ∷ u)) in
      let here : slice_get w (length t) ≡ Some c =
      slice_get-get_or w (length t) 0 long ∙ ap Some (get_or-append_seam t c u 0) in
      let one : length t + 1 ≡ length (t ++ c ∷ []) = omega (arith, length-append t (c ∷ [])) in
      let all = read.goes (c ∷ u) ∙ leads p w (length t) here ∙ ap (completed p w next) one in
      subst (λ x. prefix_answer r x ≡ completed p x next (length (t ++ c ∷ []))) (sym (append_assoc t (c ∷ []) u)) all;
}

-- These hold in every mode, with and without names.
module _ (p : Settings) where
  before_the_first_byte : HasRead p [] (at_value awaits.Value [])
  before_the_first_byte = none-read p

  -- `[[]] `, byte by byte
  array_begun : HasRead p (codes "[") (between_parts awaits.First shape.Array [] [])
  array_begun =
      read-on p [] 91 (at_value awaits.Value []) (between_parts awaits.First shape.Array [] [])
      (λ p t j here. value-begins p t j 91 here refl shape.Array [] (omega arith) refl)
      before_the_first_byte

  inner_begun : HasRead p (codes "[[") (between_parts awaits.First shape.Array [] in_array)
  inner_begun =
      read-on p (codes "[") 91 (between_parts awaits.First shape.Array [] []) (between_parts awaits.First shape.Array [] in_array)
      (λ p t j here.
      item-begins p t j 91 here refl awaits.First [] [] refl
      ∙ value-begins p t j 91 here refl shape.Array in_array (omega arith) refl)
      array_begun

  inner_ended : HasRead p (codes "[[]") (between_parts awaits.Comma shape.Array (empty ∷ []) [])
  inner_ended =
      read-on p (codes "[[") 93 (between_parts awaits.First shape.Array [] in_array)
      (between_parts awaits.Comma shape.Array (empty ∷ []) [])
      (λ p t j here. part-ends p t j 93 here refl awaits.First shape.Array [] in_array refl)
      inner_begun

  after_a_comma : HasRead p (codes "[[],") (between_parts awaits.Next shape.Array (empty ∷ []) [])
  after_a_comma =
      read-on p (codes "[[]") 44 (between_parts awaits.Comma shape.Array (empty ∷ []) [])
      (between_parts awaits.Next shape.Array (empty ∷ []) [])
      (λ p t j here. comma-taken p t j 44 here refl awaits.Comma shape.Array (empty ∷ []) [] refl)
      inner_ended

  array_whole : HasRead p (codes "[[]]") (at_end around_empty 0)
  array_whole =
      read-on p (codes "[[]") 93 (between_parts awaits.Comma shape.Array (empty ∷ []) []) (at_end around_empty 0)
      (λ p t j here. part-ends p t j 93 here refl awaits.Comma shape.Array (empty ∷ []) [] refl)
      inner_ended

  whitespace_after_it : HasRead p (codes "[[]] ") (at_end around_empty 1)
  whitespace_after_it =
      read-on p (codes "[[]]") 32 (at_end around_empty 0) (at_end around_empty 1)
      (λ p t j here. leads-blank p t j 32 here (at_end around_empty 0) refl)
      array_whole

  -- `{"a":{}}`, its key as one
  object_begun : HasRead p (codes "{") (between_parts awaits.First shape.Object [] [])
  object_begun =
      read-on p [] 123 (at_value awaits.Value []) (between_parts awaits.First shape.Object [] [])
      (λ p t j here. value-begins p t j 123 here refl shape.Object [] (omega arith) refl)
      before_the_first_byte

  after_a_key : HasRead p (codes "{\"a\"") (at_value awaits.Colon in_object)
  after_a_key = record {
    goes = λ u.
        let t = codes "{\"a\"" ++ u in
        object_begun.goes (codes "\"a\"" ++ u)
        ∙ key-begins p t 1 34 refl refl awaits.First [] [] refl
        ∙ key-read p t 1 4 [] [] key_a (omega arith) (unfold computed_strings in refl);
  }

  after_its_colon : HasRead p (codes "{\"a\":") (at_value awaits.Value in_object)
  after_its_colon =
      read-on p (codes "{\"a\"") 58 (at_value awaits.Colon in_object) (at_value awaits.Value in_object)
      (λ p t j here. colon-taken p t j 58 here refl in_object refl)
      after_a_key

  member_begun : HasRead p (codes "{\"a\":{") (between_parts awaits.First shape.Object [] in_object)
  member_begun =
      read-on p (codes "{\"a\":") 123 (at_value awaits.Value in_object) (between_parts awaits.First shape.Object [] in_object)
      (λ p t j here. value-begins p t j 123 here refl shape.Object in_object (omega arith) refl)
      after_its_colon

  member_ended : HasRead p (codes "{\"a\":{}") (between_parts awaits.Comma shape.Object ((key_a, paired []) ∷ []) [])
  member_ended =
      read-on p (codes "{\"a\":{") 125 (between_parts awaits.First shape.Object [] in_object)
      (between_parts awaits.Comma shape.Object ((key_a, paired []) ∷ []) [])
      (λ p t j here. part-ends p t j 125 here refl awaits.First shape.Object [] in_object refl)
      member_begun

  object_whole : HasRead p (codes "{\"a\":{}}") (at_end object_a 0)
  object_whole =
      read-on p (codes "{\"a\":{}") 125 (between_parts awaits.Comma shape.Object ((key_a, paired []) ∷ []) [])
      (at_end object_a 0)
      (λ p t j here. part-ends p t j 125 here refl awaits.Comma shape.Object ((key_a, paired []) ∷ []) [] refl)
      member_ended

  -- a number and a key that the bytes leave unfinished
  in_a_number : (u : List ℕ) → ReadsAt p (codes "[1") u None (in_scalar in_array 1)
  in_a_number u =
      let t = codes "[1" ++ u in
      array_begun.goes (49 ∷ u)
      ∙ item-begins p t 1 49 refl refl awaits.First [] [] refl
      ∙ value-here p t 1 49 refl refl in_array

  in_a_key : (u : List ℕ) → ReadsAt p (codes "{\"a") u None (in_key [] [] 1)
  in_a_key u =
      object_begun.goes (codes "\"a" ++ u)
      ∙ key-begins p (codes "{\"a" ++ u) 1 34 refl refl awaits.First [] [] refl

  -- broken bytes: the comma is the error, whatever comes after it
  broken : (u : List ℕ) (o : Opened) → ReadsAt p (codes "[,") u (Some (record { kind = ExpectedSomeValue; index = 1 })) o
  unfolding whole_answer
  broken u o =
      let t = codes "[," ++ u in
      let read : prefix_answer (rules_as owned p) t ≡ fault expected_value 1 1 =
      array_begun.goes (44 ∷ u)
      ∙ item-begins p t 1 44 refl refl awaits.First [] [] refl
      ∙ value-none p t 1 44 refl refl in_array (omega arith) refl in (
        1,
        if_case (λ x. x ≡ fault expected_value 1 1) (is_active p.mode) (prefix_answer (rules_as owned p) t)
            (whole_answer (rules_as owned p) t) (λ on. read) (λ off. ap (to_end t) read),
      )

-- Other states are led elsewhere by some rest of the document.
abbrev off : Settings
off = record { allow_inf_nan = false; mode = Off }

no_item_yet : HasRead off (codes "[") (between_parts awaits.Next shape.Array [] []) → ⊥
no_item_yet h =
    let e : done empty 2 ≡ fault trailing_comma 1 1 = unfold computed_readings in h.goes (codes "]") in cc

an_end_may_come : HasRead off (codes "[") (at_value awaits.Value in_array) → ⊥
an_end_may_come h =
    let e : done empty 2 ≡ fault expected_value 1 1 = unfold computed_readings in h.goes (codes "]") in cc

an_item_must_come : HasRead off (codes "[[],") (between_parts awaits.First shape.Array (empty ∷ []) []) → ⊥
an_item_must_come h =
    let e : fault trailing_comma 4 4 ≡ done around_empty 5 = unfold computed_readings in h.goes (codes "]") in cc

no_item_is_lost : HasRead off (codes "[[]") (between_parts awaits.Comma shape.Array [] []) → ⊥
no_item_is_lost h =
    let e : done around_empty 4 ≡ done empty 4 = unfold computed_readings in h.goes (codes "]") in cc

no_container_is_lost : HasRead off (codes "[[") (between_parts awaits.First shape.Array [] []) → ⊥
no_container_is_lost h =
    let e : done around_empty 4 ≡ done empty 3 = unfold computed_readings in h.goes (codes "]]") in cc

no_other_value : HasRead off (codes "[[]]") (at_end empty 0) → ⊥
no_other_value h = let e : done around_empty 4 ≡ done empty 4 = unfold computed_readings in h.goes [] in cc

no_other_end : HasRead off (codes "[[]] ") (at_end around_empty 0) → ⊥
no_other_end h = let e : done around_empty 4 ≡ done around_empty 5 = unfold computed_readings in h.goes [] in cc

a_colon_must_come : HasRead off (codes "{\"a\"") (at_value awaits.Value in_object) → ⊥
a_colon_must_come h =
    let e : done object_a 8 ≡ fault expected_value 4 4 = unfold computed_readings in h.goes (codes ":{}}") in cc

no_other_key : HasRead off (codes "{\"a\":") (at_value awaits.Value (members_frame [] (text_of []) ∷ [])) → ⊥
no_other_key h =
    let e : done object_a 8 ≡ done (paired ((text_of [], paired []) ∷ [])) 8 =
    unfold computed_readings in h.goes (codes "{}}") in
    let key : key_a ≡ text_of [] = cc in
    let bytes = ap (λ (k : Text). k.bytes) key in
    cc

no_other_begin : ((u : List ℕ) → ReadsAt off (codes "[1") u None (in_scalar in_array 2)) → ⊥
no_other_begin h =
    let e : done (listed (int (pos 1) ∷ [])) 3 ≡ fault expected_value 2 2 = unfold computed_readings in h (codes "]") in cc

abbrev error_at_comma : Kind → ℕ → Reading Tree
error_at_comma k stop = fault k 1 stop

no_other_error : (o : Opened)
    → ReadsAt off (codes "[,") [] (Some (record { kind = TrailingComma; index = 1 })) o → ⊥
no_other_error o h =
    let e : error_at_comma expected_value 1 ≡ error_at_comma trailing_comma h.0 = unfold computed_readings in h.1 in cc

-- After broken bytes: where nothing more comes, each state ends after them, and the error is before their end.
abbrev wrong : List ℕ
wrong = codes "[,"

abbrev strict : Rules Text Tree
strict = rules_as owned off

stops_there : (h : ContainerKind) (c : Container (PartTree h) Tree) (xs : List (PartTree h)) (fs : List OpenFrame) (s : Step)
    (k : Kind) → resolve_step strict.forgives s ≡ stuck k 2 → strict.forgives k ≡ false
    → resume strict wrong fs (parts_step strict wrong c xs s) ≡ fault expected_value 1 1 → ⊥
stops_there h c xs fs s k is bad e =
    let at : fault k 2 2 ≡ fault expected_value 1 1 = sym (step-stuck strict wrong c fs xs s k 2 is bad) ∙ e in cc

ends_after_them : (s : Arrived) → leads_on strict wrong s 2 ≡ fault expected_value 1 1 → ⊥
unfolding computed_steps
ends_after_them (at_value awaits.Colon fs) e =
    let at : fault eof_object 2 2 ≡ fault expected_value 1 1 = sym (resume-fault strict wrong fs eof_object 2 2 refl) ∙ e in
    cc
ends_after_them (at_value a fs) e =
    let at : fault eof_value 2 2 ≡ fault expected_value 1 1 = sym (resume-fault strict wrong fs eof_value 2 2 refl) ∙ e in
    cc
ends_after_them (between_parts awaits.Next h xs fs) e =
    stops_there h (container_of strict wrong h (length fs)) xs fs (stuck eof_value 2) eof_value refl refl e
ends_after_them (between_parts awaits.First shape.Array xs fs) e =
    stops_there shape.Array (container_of strict wrong shape.Array (length fs)) xs fs (stuck eof_list 2) eof_list refl refl e
ends_after_them (between_parts awaits.First shape.Object xs fs) e =
    stops_there shape.Object (container_of strict wrong shape.Object (length fs)) xs fs (stuck eof_object 2) eof_object refl refl
    e
ends_after_them (between_parts a shape.Array xs fs) e =
    stops_there shape.Array (container_of strict wrong shape.Array (length fs)) xs fs (stuck eof_list 2) eof_list refl refl e
ends_after_them (between_parts a shape.Object xs fs) e =
    stops_there shape.Object (container_of strict wrong shape.Object (length fs)) xs fs (stuck eof_object 2) eof_object refl refl
    e
ends_after_them (at_end v n) e = cc

broken_bytes_leave_nothing_open : (s : Arrived) → HasRead off wrong s → ⊥
broken_bytes_leave_nothing_open s h = ends_after_them s (unfold computed_readings in sym (h.goes []))
