-- Where a node is read with partial reading off, the reading that refuses repeated keys agrees exactly if no object of
-- the node has two keys of the same characters.
use Rattle.jiter_steps.proofs.Words.{◌≡◌, ℕ, zero, suc, Bool, true, false, List, refl, sym, ap, ◌∙◌, subst, Some, None}
use Rattle.jiter_steps.proofs.Words.{none-some, Kind, duplicate_key, if-false, if-true, Scanned, taken, failed, Span}
use Rattle.jiter_steps.proofs.Words.{span_then, number_at, seen_as, whole, string_at, literal_at, Key, Node, Reading}
use Rattle.jiter_steps.proofs.Words.{done, fault, Rules, scalar_at, with_key, after_colon, after_key, array_of}
use Rattle.jiter_steps.proofs.Words.{object_of, value_with, inside_at, value_at, step, colon, value_first, object_colon}
use Rattle.jiter_steps.proofs.Words.{HasUniqueKeys, ItemsHaveUniqueKeys, MembersHaveUniqueKeys, is_among}
use Rattle.jiter_steps.proofs.Words.{after_its_colon, repeated_key, without_repeats, Start, false_from_ne_true}
use Rattle.jiter_steps.specs.declared.parse.Start.TheVariants as start
use Rattle.jiter_steps.proofs.Grammar.NodeRules.{nodes, nodes_of, node_members_of}
use Rattle.jiter_steps.proofs.Reading.Fused.{mapped}
use Rattle.jiter_steps.proofs.Unique.Agreeing.{IsRepeat, Agrees, key-repeats, inside_at-agrees, key-agrees}
use Rattle.jiter_steps.proofs.Unique.BorrowingUnique.{Tells, Distinguishes, container-tells}
use Rattle.jiter_steps.proofs.Unique.Keys.{characters, all_characters, items-prefix, items-last, items-push}
use Rattle.jiter_steps.proofs.Unique.Keys.{members-prefix, members-last, members-push, members-clash}

-- a member that was read: its key is refused exactly where it is already
record KeyRead (keys : List (List ℕ)) (t : List ℕ) (x : Scanned Key) (p : Key × Node) : Type 0 where
  refused : is_among (characters p.0) keys ≡ true → (f : Kind × ℕ) × (repeated_key characters keys t x ≡ Some f)
  free : is_among (characters p.0) keys ≡ false → repeated_key characters keys t x ≡ None

module _ (t : List ℕ) (keys : List (List ℕ)) (g : ℕ → Reading Node) (p : Key × Node) (e : ℕ) where
  keyed-is : (k : Key) (x : Reading Node) → with_key k x ≡ done p e → p.0 ≡ k
  keyed-is k (done a d) is = cc
  keyed-is k (fault kind j stop) is = absurd (cc)

  value-is : (k : Key) (x : Span) → after_colon k g x ≡ done p e → p.0 ≡ k
  value-is k (taken u j) is = keyed-is k (g j) is
  value-is k (failed kind j) is = absurd (cc)

  colon-read : (k : Key) (d : ℕ) (x : Span) → step t colon d ≡ x
      → after_colon k g (span_then x (step t value_first)) ≡ done p e → KeyRead keys t (taken k d) p
  colon-read k d (failed kind j) at is = absurd (cc)
  colon-read k d (taken u j) at is =
      let same = value-is k (step t value_first j) is in
      record {
        refused = λ old. (
          (duplicate_key (characters k), j),
          if-true (is_among (characters k) keys) _ None (subst (λ k. is_among (characters k) keys ≡ true) same old)
              ∙ ap (after_its_colon (characters k)) at,
        );
        free = λ new.
            if-false (is_among (characters k) keys) _ None (subst (λ k. is_among (characters k) keys ≡ false) same new);
      }

  key-read : (i : ℕ) (x : Scanned Key) → after_key g t i x ≡ done p e → KeyRead keys t x p
  key-read i (failed kind j) is = absurd (cc)
  key-read i (taken k d) is = colon-read k d (step t colon d) refl is

module _ (names : Bool) (t : List ℕ) where
  abbrev plain : Rules Key Node
  plain = nodes names

  abbrev pub strictest : Rules Key Node
  strictest = without_repeats characters plain

  abbrev TellsOf : Reading Node → Reading Node → Type 0
  TellsOf = Tells HasUniqueKeys

  module _ (f g : ℕ → Reading Node) (agrees : (i : ℕ) → Agrees (f i) (g i)) (tells : (i : ℕ) → TellsOf (f i) (g i))
    where
      good-value : (i : ℕ) (n : Node) (e : ℕ) → g i ≡ done n e → f i ≡ done n e → HasUniqueKeys n
      good-value i n e is also = (subst (TellsOf (f i)) is (tells i)).0 also

      bad-value : (i : ℕ) (n : Node) (e : ℕ) → g i ≡ done n e → IsRepeat (f i) → HasUniqueKeys n → ⊥
      bad-value i n e is = (subst (TellsOf (f i)) is (tells i)).1

      items-distinguish : (i : ℕ) → Distinguishes HasUniqueKeys (array_of plain g t i) (array_of strictest f t i)
          HasUniqueKeys (λ ns. ItemsHaveUniqueKeys (nodes_of ns))
      items-distinguish i = record {
        none = tt;
        push = λ ns n j e free is good one. items-push ns n good one;
        prefix = items-prefix;
        last = items-last;
        refused = λ ns n j e z refuses is good. none-some z refuses;
        build = λ e ns good. good;
        built = λ e ns good. good;
      }

      abbrev TellsMember : Reading (Key × Node) → Reading (Key × Node) → Type 0
      TellsMember = Tells (λ m. HasUniqueKeys m.1)

      unkeyed : (k : Key) (x : Reading Node) (a : Node) (e : ℕ) → with_key k x ≡ done (k, a) e → x ≡ done a e
      unkeyed k (done b d) a e is = ap (mapped (λ m. m.1)) is
      unkeyed k (fault kind j stop) a e is = absurd (cc)

      repeat-unkeyed : (k : Key) (x : Reading Node) → IsRepeat (with_key k x) → IsRepeat x
      repeat-unkeyed k (done a e) is = is
      repeat-unkeyed k (fault kind j stop) is = is

      keyed-tells : (k : Key) (x y : Reading Node) → TellsOf x y → TellsMember (with_key k x) (with_key k y)
      keyed-tells k x (done a e) h = (λ is. h.0 (unkeyed k x a e is), λ is. h.1 (repeat-unkeyed k x is))
      keyed-tells k x (fault kind j stop) h = tt

      colon-tells : (k : Key) (x : Span) → TellsMember (after_colon k f x) (after_colon k g x)
      colon-tells k (taken u j) = keyed-tells k (f j) (g j) (tells j)
      colon-tells k (failed kind j) = tt

      key-tells : (i : ℕ) (x : Scanned Key) → TellsMember (after_key f t i x) (after_key g t i x)
      key-tells i (taken k e) = colon-tells k (object_colon t e)
      key-tells i (failed kind j) = tt

      part-tells : (i : ℕ) → TellsMember ((object_of strictest f t 0).part i) ((object_of plain g t 0).part i)
      part-tells i = key-tells i (plain.key t i)

      good-member : (i : ℕ) (m : Key × Node) (e : ℕ) → (object_of plain g t 0).part i ≡ done m e
          → (object_of strictest f t 0).part i ≡ done m e → HasUniqueKeys m.1
      good-member i m e is also = (subst (TellsMember ((object_of strictest f t 0).part i)) is (part-tells i)).0 also

      bad-member : (i : ℕ) (m : Key × Node) (e : ℕ) → (object_of plain g t 0).part i ≡ done m e
          → IsRepeat ((object_of strictest f t 0).part i) → HasUniqueKeys m.1 → ⊥
      bad-member i m e is = (subst (TellsMember ((object_of strictest f t 0).part i)) is (part-tells i)).1

      members-distinguish : (i : ℕ) → Distinguishes HasUniqueKeys (object_of plain g t i) (object_of strictest f t i)
          (λ m. HasUniqueKeys m.1) (λ ms. MembersHaveUniqueKeys (node_members_of ms))
      members-distinguish i = record {
        none = tt;
        push = λ ms m j e free is good one.
            let read = key-read t (all_characters ms) g m e j (plain.key t j) is in
            members-push ms m (false_from_ne_true (is_among (characters m.0) (all_characters ms))
            (λ old. let z = read.refused old in none-some z.0 (sym free ∙ z.1))) good one;
        prefix = members-prefix;
        last = members-last;
        refused = λ ms m j e z refuses is good.
            let new =
            false_from_ne_true (is_among (characters m.0) (all_characters ms)) (λ old. members-clash ms m old good) in
            none-some z (sym ((key-read t (all_characters ms) g m e j (plain.key t j) is).free new) ∙ refuses);
        build = λ e ms good. good;
        built = λ e ms good. good;
      }

      scalar-tells : {X : Type 0} (i : ℕ) (seen : X → ℕ → Node) (x : Scanned X)
          → ((s : X) (e : ℕ) → HasUniqueKeys (seen s e))
          → TellsOf (scalar_at i (seen_as seen x)) (scalar_at i (seen_as seen x))
      scalar-tells i seen (taken s e) all = (λ h. all s e, λ h. absurd h)
      scalar-tells i seen (failed k j) all = tt

      value_with-tells : (i : ℕ) (s : Start) → TellsOf (value_with strictest f t i s) (value_with plain g t i s)
      value_with-tells i start.Array =
          container-tells HasUniqueKeys characters plain (λ k. refl) t (array_of plain g t i) (array_of strictest f t i)
          HasUniqueKeys (λ ns. ItemsHaveUniqueKeys (nodes_of ns)) (λ j. refl) (λ j. refl) (λ e ps. refl) (λ ps j. refl)
          (λ ps j. tt) agrees good-value bad-value (items-distinguish i) i
      value_with-tells i start.Object =
          container-tells HasUniqueKeys characters plain (λ k. refl) t (object_of plain g t i) _
          (λ m. HasUniqueKeys m.1) (λ ms. MembersHaveUniqueKeys (node_members_of ms)) (λ j. refl) (λ j. refl)
          (λ e ps. refl) (λ ps j. refl) (λ ps j. key-repeats characters (all_characters ps) t (plain.key t j))
          (λ j. key-agrees characters plain (λ ms u j. refl) (λ k h. refl) t f g agrees j (plain.key t j)) good-member
          bad-member (members-distinguish i) i
      value_with-tells i start.String = scalar-tells i _ (string_at whole t i) (λ s e. tt)
      value_with-tells i start.Number = scalar-tells i _ (number_at names t i) (λ n e. tt)
      value_with-tells i (start.Literal l) = scalar-tells i _ (literal_at t l i) (λ u e. tt)
      value_with-tells i start.Nothing = tt

  same-rules : (levels i : ℕ) → Agrees (inside_at strictest t levels i) (inside_at plain t levels i)
  same-rules = inside_at-agrees characters plain (λ ms u j. refl) (λ k h. refl) t

  inside_at-tells : (levels i : ℕ) → TellsOf (inside_at strictest t levels i) (inside_at plain t levels i)
  unfolding inside_at
  inside_at-tells zero i = tt
  inside_at-tells (suc levels) i =
      value_with-tells _ (inside_at plain t levels) (same-rules levels) (inside_at-tells levels) i _

  -- A value that is read is unique where the other reading agrees, and not where that has a repeated key.
  pub value_at-tells : (levels i : ℕ) → TellsOf (value_at strictest t levels i) (value_at plain t levels i)
  value_at-tells levels i =
      value_with-tells _ (inside_at plain t levels) (same-rules levels) (inside_at-tells levels) i _
