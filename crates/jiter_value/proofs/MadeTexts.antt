-- Readings whose texts are made so: what is read then is made of what is read.
use Rattle.jiter_value.proofs.Words.{◌≡◌, ◌∙◌, refl, sym, ap, ap₂, ℕ, ◌<◌, Bool, false, List, [], ◌∷◌, length, map}
use Rattle.jiter_value.proofs.Words.{arith, Option, Some, None, Kind, number_at, is_active, PartialMode, Off, On}
use Rattle.jiter_value.proofs.Words.{TrailingStrings, Scanned, FaultAt, taken, failed, if_both, number_at-within}
use Rattle.jiter_value.proofs.Words.{seen_as, value_form, whole_trees, answer_in, literal_at, literal_tree, Reading}
use Rattle.jiter_value.proofs.Words.{Rules, done, fault, value_at, prefix_answer, whole_answer, whole, string_at, Text}
use Rattle.jiter_value.proofs.Words.{Tree, Items, no_items, item, Members, no_members, member, items_of, members_of}
use Rattle.jiter_value.proofs.Words.{own_bytes, unique_answer_in, Literal, string_at-within, Advances, as_it_is}
use Rattle.jiter_value.proofs.Words.{tree_as, reading_as, TextPolicy, borrowed, borrowed_unique, rules_as, answer_with, answer_as}
use Rattle.jiter_value.proofs.Words.{answer_by, Settings}
use Rattle.std.proofs.lemmas.Option.{none-some}
use Rattle.jiter_steps.specs.Answer.{nothing_forgiven}
use Rattle.jiter_steps.specs.Tree as tree
use Rattle.jiter_steps.specs.Unique.{repeated_key}
use Rattle.jiter_steps.specs.declared.parse.Literal.TheVariants as literal
use Rattle.jiter_steps.proofs.Reading.Fused.{AllTold, Leads, mapped, scanned_as, pairs, refuses-same, value_at-mapped}
use Rattle.jiter_steps.proofs.Reading.Fused.{prefix_answer-mapped, whole_answer-mapped}
use Rattle.jiter_steps.proofs.Reading.Instances.{seen-within, literal_at-within, trees-advances}
use Rattle.jiter_steps.proofs.Reading.Bounds.{either}
use Rattle.jiter_steps.proofs.Unique.Within.{repeats-advance}
use Rattle.jiter_value.specs.Owned.{items_as, members_as}
use Rattle.jiter_value.specs.Settings.{rules, refused_as}

module _ (made : Text → Text) where
  pub items_as-of : (vs : List Tree) → items_as made (items_of vs) ≡ items_of (map (tree_as made) vs)
  items_as-of [] = refl
  items_as-of (v ∷ vs) = ap (item (tree_as made v)) (items_as-of vs)

  pub members_as-of : (ms : List (Text × Tree))
      → members_as made (members_of ms) ≡ members_of (pairs made (tree_as made) ms)
  members_as-of [] = refl
  members_as-of (m ∷ ms) = ap (member (made m.0) (tree_as made m.1)) (members_as-of ms)

  literal-as : (l : Literal) → tree_as made (literal_tree l) ≡ literal_tree l
  literal-as literal.Null = refl
  literal-as literal.True = refl
  literal-as literal.False = refl

  seen-made : {A B C : Type 0} (f : B → C) (g : A → ℕ → B) (h : A → ℕ → C) (x : Scanned A)
      → ((a : A) (e : ℕ) → f (g a e) ≡ h a e) → scanned_as f (seen_as g x) ≡ seen_as h x
  seen-made f g h (taken a e) same = ap (λ c. taken c e) (same a e)
  seen-made f g h (failed k j) same = refl

  key-made : (x : Scanned Text) → scanned_as made x ≡ seen_as (λ s e. made s) x
  key-made (taken s e) = refl
  key-made (failed k j) = refl

  mapped-is : (x : Reading Tree) → mapped (tree_as made) x ≡ reading_as (tree_as made) x
  mapped-is (done v e) = refl
  mapped-is (fault k i stop) = refl

-- what was read by any rules for repeated keys
abbrev Refusing : Type 0
Refusing = List (Text × Tree) → List ℕ → ℕ → Option (Kind × ℕ)

abbrev rules_refusing : Refusing → Settings → Rules Text Tree
rules_refusing f p = record {
  forgives = (rules p).forgives;
  literal = (rules p).literal;
  number = (rules p).number;
  text = (rules p).text;
  key = (rules p).key;
  refuses = f;
  array = (rules p).array;
  object = (rules p).object;
}

module _ (made : TextPolicy) (p : Settings) (t : List ℕ) where
  abbrev AllocFailed : ℕ → Option (Kind × ℕ) → Type 0
  AllocFailed i o = (j : ℕ) (k : Kind) → o ≡ Some (k, j) → (i < j) × FaultAt t k j

  -- a key that is refused
  refused-after : (members : List (Text × Tree)) (i : ℕ) → i < length t → AllocFailed i (refused_as made members t i)
  refused-after members i lt =
      either (AllocFailed i) made.unique
      (repeated_key own_bytes (map (λ m. own_bytes m.0) members) t (string_at whole t i)) None
      (λ j k h. (repeats-advance t own_bytes (whole_trees false)
      (trees-advances t nothing_forgiven whole false)).refuses members i j k lt h)
      (λ j k h. absurd (none-some _ h))

  pub rules_as-advances : Advances (rules_as made p) t
  rules_as-advances = record {
    literal = λ l i h. seen-within _ t i (literal_at t l i) (literal_at-within t l i (omega arith));
    number = λ i h. seen-within _ t i (number_at p.allow_inf_nan t i) (number_at-within p.allow_inf_nan t i h);
    text = λ i h. seen-within _ t i (string_at (value_form p.mode) t i) (string_at-within (value_form p.mode) t i h);
    key = λ i h. seen-within _ t i (string_at whole t i) (string_at-within whole t i h);
    refuses = λ members i j k lt h. refused-after members i lt j k h;
  }

  abbrev Made : Reading Tree → Reading Tree
  Made = reading_as (tree_as made.text)

  -- the same keys are refused
  module _ (f : Refusing)
      (same : (members : List (Text × Tree)) (i : ℕ)
      → f members t i ≡ refused_as made (pairs made.text (tree_as made.text) members) t i) where
    made-leads : Leads AllTold (rules_refusing f p) (rules_as made p) made.text (tree_as made.text) t
    made-leads = record {
      forgives = λ k. refl;
      told = λ k h. tt;
      literal = λ l i lt begins told.
          seen-made made.text (tree_as made.text) _ _ (literal_at t l i) (λ u e. literal-as made.text l);
      number = λ i lt begins told.
          seen-made made.text (tree_as made.text) _ _ (number_at p.allow_inf_nan t i) (λ n e. refl);
      text = λ i quote told.
          seen-made made.text (tree_as made.text) _ _ (string_at (value_form p.mode) t i) (λ s e. refl);
      key = λ i quote told. key-made made.text (string_at whole t i);
      refuses = λ members i quote. refuses-same AllTold _ _ (same members i);
      array = λ b e items. ap tree.array (items_as-of made.text items);
      object = λ b e members. ap tree.object (members_as-of made.text members);
    }

    value_at-given : (levels i : ℕ)
        → value_at (rules_as made p) t levels i ≡ Made (value_at (rules_refusing f p) t levels i)
    value_at-given levels i =
        sym (value_at-mapped (rules_refusing f p) (rules_as made p) made.text (tree_as made.text) t made-leads levels i)
        ∙ mapped-is made.text (value_at (rules_refusing f p) t levels i)

    prefix-given : prefix_answer (rules_as made p) t ≡ Made (prefix_answer (rules_refusing f p) t)
    prefix-given =
        sym (prefix_answer-mapped (rules_refusing f p) (rules_as made p) made.text (tree_as made.text) t made-leads)
        ∙ mapped-is made.text (prefix_answer (rules_refusing f p) t)

    whole-given : whole_answer (rules_as made p) t ≡ Made (whole_answer (rules_refusing f p) t)
    whole-given =
        sym (whole_answer-mapped (rules_refusing f p) (rules_as made p) made.text (tree_as made.text) t made-leads)
        ∙ mapped-is made.text (whole_answer (rules_refusing f p) t)

    answer-given : answer_as made p t ≡ Made (answer_with p.mode (rules_refusing f p) t)
    answer-given =
        if_both (λ x y. x ≡ Made y) (is_active p.mode) (prefix_answer (rules_as made p) t)
        (whole_answer (rules_as made p) t) (prefix_answer (rules_refusing f p) t)
        (whole_answer (rules_refusing f p) t) (λ on. prefix-given) (λ off. whole-given)

-- Where repeated keys are kept,
abbrev none_refused : Refusing
none_refused members t i = None

module _ (made : TextPolicy) (off : made.unique ≡ false) (p : Settings) (t : List ℕ) where
  none-same : (members : List (Text × Tree)) (i : ℕ) → none_refused members t i ≡ refused_as made members t i
  none-same members i = rw off refl

  pub value_at-as : (levels i : ℕ)
      → value_at (rules_as made p) t levels i ≡ reading_as (tree_as made.text) (value_at (rules p) t levels i)
  value_at-as levels i =
      value_at-given made p t none_refused
      (λ members i. none-same (pairs made.text (tree_as made.text) members) i) levels i

  pub answer_as-kept : answer_as made p t ≡ reading_as (tree_as made.text) (answer_with p.mode (rules p) t)
  answer_as-kept =
      answer-given made p t none_refused (λ members i. none-same (pairs made.text (tree_as made.text) members) i)

answer_with-in : (names : Bool) (mode : PartialMode) (t : List ℕ)
    → answer_with mode (rules (record { allow_inf_nan = names; mode = mode })) t ≡ answer_in names mode t
answer_with-in names Off t = refl
answer_with-in names On t = refl
answer_with-in names TrailingStrings t = refl

pub answer_as-is : (made : TextPolicy) → made.unique ≡ false → (p : Settings) (t : List ℕ)
    → answer_as made p t ≡ reading_as (tree_as made.text) (answer_by p t)
answer_as-is made off p t =
    answer_as-kept made off p t ∙ ap (reading_as (tree_as made.text)) (answer_with-in p.allow_inf_nan p.mode t)

-- and where they are refused.
abbrev repeats_refused : Refusing
repeats_refused members t i = repeated_key own_bytes (map (λ m. own_bytes m.0) members) t (string_at whole t i)

keys-same : (members : List (Text × Tree))
    → map (λ m. own_bytes m.0) members ≡ map (λ m. own_bytes m.0) (pairs as_it_is (tree_as as_it_is) members)
keys-same [] = refl
keys-same (m ∷ ms) = ap (λ ks. own_bytes m.0 ∷ ks) (keys-same ms)

unique-same : (t : List ℕ) (members : List (Text × Tree)) (i : ℕ)
    → repeats_refused members t i ≡ refused_as borrowed_unique (pairs as_it_is (tree_as as_it_is) members) t i
unique-same t members i = ap (λ ks. repeated_key own_bytes ks t (string_at whole t i)) (keys-same members)

unique_with-in : (names : Bool) (mode : PartialMode) (t : List ℕ)
    → answer_with mode (rules_refusing repeats_refused (record { allow_inf_nan = names; mode = mode })) t
    ≡ unique_answer_in names mode t
unique_with-in names Off t = refl
unique_with-in names On t = refl
unique_with-in names TrailingStrings t = refl

-- texts that are borrowed as they lie
abbrev mutual
  pub tree_as-it_is : (v : Tree) → tree_as as_it_is v ≡ v
  tree_as-it_is tree.null = refl
  tree_as-it_is (tree.boolean b) = refl
  tree_as-it_is (tree.int z) = refl
  tree_as-it_is (tree.big s) = refl
  tree_as-it_is (tree.float s) = refl
  tree_as-it_is (tree.string s) = refl
  tree_as-it_is (tree.array is) = ap tree.array (items_as-it_is is)
  tree_as-it_is (tree.object ms) = ap tree.object (members_as-it_is ms)

  items_as-it_is : (is : Items) → items_as as_it_is is ≡ is
  items_as-it_is no_items = refl
  items_as-it_is (item v is) = ap₂ item (tree_as-it_is v) (items_as-it_is is)

  members_as-it_is : (ms : Members) → members_as as_it_is ms ≡ ms
  members_as-it_is no_members = refl
  members_as-it_is (member k v ms) = ap₂ (member k) (tree_as-it_is v) (members_as-it_is ms)

pub reading_as-it_is : (x : Reading Tree) → reading_as (tree_as as_it_is) x ≡ x
reading_as-it_is (done v e) = ap (λ w. done w e) (tree_as-it_is v)
reading_as-it_is (fault k i stop) = refl

pub value_at-it_is : (p : Settings) (t : List ℕ) (levels i : ℕ)
    → value_at (rules_as borrowed p) t levels i ≡ value_at (rules p) t levels i
value_at-it_is p t levels i = value_at-as borrowed refl p t levels i ∙ reading_as-it_is (value_at (rules p) t levels i)

-- What a text answers where repeated keys are refused.
pub answer_as-unique : (p : Settings) (t : List ℕ)
    → answer_as borrowed_unique p t ≡ unique_answer_in p.allow_inf_nan p.mode t
answer_as-unique p t =
    answer-given borrowed_unique p t repeats_refused (unique-same t)
    ∙ reading_as-it_is (answer_with p.mode (rules_refusing repeats_refused p) t)
    ∙ unique_with-in p.allow_inf_nan p.mode t
