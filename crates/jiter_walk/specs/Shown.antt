-- What an outcome gives, and what the tree then has. These are proofs, which no reader has to believe: they are in specs/,
-- and call no tactic, since a meaning carries its law.
use Rattle.std.proofs.Common.{◌≡◌, ℕ, ◌≤◌, Bool, true, false, List, refl, sym, ap, subst, pos, negsuc, ◌&&◌}
use Rattle.std.specs.Prelude.{Option, Some, None, if◌then◌else◌, nat_le, slice_range, unwrap_or}
use Rattle.std.proofs.lemmas.Bool.{and_parts, leb-true}
use Rattle.jiter_steps.specs.declared.parse.Literal.TheVariants as literal
use Rattle.jiter.specs.Caller.{Node, Number, Tree, begin, bool_told, boolean_in, end, int_in, int_told, number_bytes_told}
use Rattle.jiter.specs.Caller.{number_tree, number_value, reply_seen, str_told, string_in, text_bytes, value_of}
use Rattle.jiter_walk.specs.Walk.{Outcome, and_then, fails, gives}
use Rattle.jiter_walk.specs.Values.{bounded, flag_in, if_bounded, integer_between, number_source_in, replied}
use Rattle.jiter_walk.specs.Values.{source_in, text_in, tree_in}

-- what an outcome gives
abbrev pub given : {C A : Type 0} → Outcome C A → Option A
given (gives a) = Some a
given (fails w i) = None

abbrev IsNothing : {A : Type 0} → Option A → Type 0
IsNothing None = Unit {0}
IsNothing (Some a) = ⊥

pub nothing-some : {A : Type 0} (a : A) → None ≡ Some a → ⊥
nothing-some a h = subst IsNothing h tt

pub some-same : {A : Type 0} (a b : A) → Some a ≡ Some b → a ≡ b
some-same a b h = ap (λ o. unwrap_or o a) h

pub gives-same : {C A : Type 0} (a b : A) → ◌≡◌ {A = Outcome C A} (gives a) (gives b) → a ≡ b
gives-same a b h = some-same a b (ap given h)

-- what is done first gives something
pub and_then-gives : {C A B : Type 0} (x : Outcome C A) (f : A → Outcome C B) (r : B) → and_then x f ≡ gives r
    → (a : A) × (x ≡ gives a) × (f a ≡ gives r)
and_then-gives (gives a) f r h = (a, refl, h)
and_then-gives (fails w i) f r h = absurd (nothing-some r (ap given h))

pub text-shows : {C : Type 0} (t : List ℕ) (n : Node) (a : List ℕ) → text_in {C = C} t n ≡ gives a
    → string_in (value_of t n) ≡ Some a
text-shows {C = C} t n a h = by (value_of t n) h where
  by : (v : Tree) → replied {C = C} (reply_seen text_bytes (str_told v (begin n) (end n))) ≡ gives a
      → string_in v ≡ Some a
  by (Tree.string s) h = ap given h
  by v h = ap given h

pub flag-shows : {C : Type 0} (t : List ℕ) (n : Node) (a : Bool) → flag_in {C = C} t n ≡ gives a
    → boolean_in (value_of t n) ≡ Some a
flag-shows {C = C} t n a h = by (value_of t n) h where
  by : (v : Tree) → replied {C = C} (bool_told v (begin n) (end n)) ≡ gives a → boolean_in v ≡ Some a
  by (Tree.boolean x) h = ap given h
  by v h = ap given h

-- an integer between two bounds
pub record IsBetween (low high : ℕ) (v : Tree) (a : ℕ) : Type 0 where
  pub integer : int_in v ≡ Some (pos a)
  pub least : low ≤ a
  pub most : a ≤ high

pub integer-shows : {C : Type 0} (low high : ℕ) (cause : C) (t : List ℕ) (n : Node) (a : ℕ)
    → integer_between low high cause t n ≡ gives a → IsBetween low high (value_of t n) a
integer-shows {C = C} low high cause t n a h = by (value_of t n) h where
  within : (p : ℕ) (b : Bool) → (nat_le low p && nat_le p high) ≡ b
      → if_bounded cause (begin n) (if b then Some p else None) ≡ gives a → IsBetween low high (Tree.int (pos p)) a
  within p true is h =
      let parts = and_parts (nat_le low p) (nat_le p high) is in
      subst (IsBetween low high (Tree.int (pos p))) (gives-same {C = C} p a h)
      (record { integer = refl; least = leb-true low p parts.0; most = leb-true p high parts.1 })
  within p false is h = absurd (nothing-some a (ap given h))

  by : (v : Tree) → and_then (replied (int_told v (begin n) (end n)))
      (λ z. if_bounded cause (begin n) (bounded low high z)) ≡ gives a → IsBetween low high v a
  by (Tree.int (pos p)) h = within p (nat_le low p && nat_le p high) refl h
  by (Tree.int (negsuc z)) h = absurd (nothing-some a (ap given h))
  by v h = absurd (nothing-some a (ap given h))

-- the source of a value with this tree
pub record IsSource (v : Tree) (a : List ℕ) : Type 0 where
  pub text : List ℕ
  pub node : Node
  pub value : v ≡ value_of text node
  pub source : a ≡ slice_range text (begin node) (end node)

pub source-shows : {C : Type 0} (t : List ℕ) (n : Node) (a : List ℕ) → source_in {C = C} t n ≡ gives a
    → IsSource (value_of t n) a
source-shows {C = C} t n a h = record {
  text = t;
  node = n;
  value = refl;
  source = sym (gives-same {C = C} (slice_range t (begin n) (end n)) a h);
}

-- the source of this number
abbrev pub IsNumber : Tree → List ℕ → Type 0
IsNumber v a = v ≡ number_tree (number_value a)

pub number_source-shows : {C : Type 0} (t : List ℕ) (n : Node) (a : List ℕ) → number_source_in {C = C} t n ≡ gives a
    → IsNumber (value_of t n) a
number_source-shows {C = C} t (Node.number b e) a h =
    ap (λ w. number_tree (number_value w)) (by (number_value (slice_range t b e)) h) where
      by : (z : Number) → replied {C = C} (number_bytes_told t (number_tree z) b e) ≡ gives a → slice_range t b e ≡ a
      by (Number.integer z) h = gives-same {C = C} (slice_range t b e) a h
      by (Number.big w) h = gives-same {C = C} (slice_range t b e) a h
      by (Number.float w) h = gives-same {C = C} (slice_range t b e) a h
number_source-shows t (Node.literal literal.Null b e) a h = absurd (nothing-some a (ap given h))
number_source-shows t (Node.literal literal.True b e) a h = absurd (nothing-some a (ap given h))
number_source-shows t (Node.literal literal.False b e) a h = absurd (nothing-some a (ap given h))
number_source-shows t (Node.string ps b e) a h = absurd (nothing-some a (ap given h))
number_source-shows t (Node.array b e ns) a h = absurd (nothing-some a (ap given h))
number_source-shows t (Node.object b e ms) a h = absurd (nothing-some a (ap given h))

pub tree-shows : {C : Type 0} (t : List ℕ) (n : Node) (v : Tree) → tree_in {C = C} t n ≡ gives v → value_of t n ≡ v
tree-shows {C = C} t n v h = gives-same {C = C} (value_of t n) v h
