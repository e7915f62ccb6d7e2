-- The search for a part: what a step of it keeps, and what a container gives.
use Rattle.std.proofs.Common.{◌≡◌, ◌∙◌, ℕ, ◌&&◌, ◌||◌, Bool, true, false, List, refl, sym, ap}
use Rattle.std.proofs.Common.{subst}
use Rattle.std.specs.Prelude.{Err, Ok, Option, Result, Some, None, if◌then◌else◌, is_err, is_none, nat_le, nat_lt, option_map}
use Rattle.std.specs.Prelude.{slice_index, string_bytes}
use Rattle.jiter_steps.proofs.Grammar.SpelledParts.{node-starts, start_is}
use Rattle.jiter_steps.specs.declared.parse.Start.TheVariants as start
use Rattle.jiter.specs.Caller.{Node, NodeMembers, Nodes, ReaderState, begin, end, gave, peek, start_of}
use Rattle.jiter.proofs.Walking.{gave-is}
use Rattle.jiter_walk.specs.declared.path.Part.{Part}
use Rattle.jiter_walk.specs.declared.walk_error.WalkError.{WalkError}
use Rattle.jiter_walk.specs.Path.{holds}
use Rattle.jiter_walk.specs.Search.{Sought, found_if, item_passed, member_passed, part_view}
use Rattle.jiter_walk.specs.Shown.{given, nothing-some}
use Rattle.jiter_walk.specs.Values.{passed_in}
use Rattle.jiter_walk.specs.Walk.{Comes, IsOutOfMemory, Outcome, Reason, is_memory_reason, Walks, fails, gives, items_walked, members_walked, reason}
use Rattle.jiter_walk.proofs.Coming.{comes-tells}
use Rattle.jiter_walk.proofs.Paths.{reader}

-- A skip, and what was kept with it.
pub skip-seen : {C S : Type 0} (x : Result (Unit {0}) (WalkError C)) (s0 s : ReaderState) → Walks (λ u. u) passed_in x s0 s
    → (see : S) (means : List ℕ → Node → Outcome C S)
    → ((n : Node) → Comes s0 n → s.position ≡ end n → is_err x ≡ false → means s0.text n ≡ gives see)
    → Walks (λ _. see) means x s0 s
skip-seen (Ok u) s0 s w see means h = record {
  moves = w.moves;
  value = λ n comes. h n comes (w.place n comes) refl;
  place = w.place;
  reads = w.reads;
  index = tt;
  memory = tt;
}
skip-seen (Err e) s0 s w see means h = record {
  moves = w.moves;
  value = λ n comes bytes. absurd (nothing-some tt (ap given (sym (w.value n comes bytes))));
  place = w.place;
  reads = w.reads;
  index = w.index;
  memory = w.memory;
}

-- what the code tests after a part from `at` on, where the reader is at p then
abbrev pub here : Option Part → ℕ → ℕ → Bool → ℕ → Bool
here f i at err p = is_none f && (nat_le at i && (err || nat_lt i p))

pub here-found : (f : Option Part) (i at p e : ℕ) (err : Bool) (q r : List ℕ × ℕ) → here f i at err p ≡ true → err ≡ false
    → p ≡ e → r ≡ q → found_if (option_map part_view f) (holds i at e) r ≡ Some q
here-found (Some x) i at p e err q r is ok place same = absurd (cc)
here-found None i at p e err q r is ok place same =
    let it : holds i at e ≡ true =
    subst (λ m. nat_le at i && nat_lt i m ≡ true) place (subst (λ b. nat_le at i && (b || nat_lt i p) ≡ true) ok is) in
    ap (λ b. if b then Some r else None) it ∙ ap Some same

pub other-kept : (f : Option Part) (i at p e : ℕ) (err : Bool) (r : List ℕ × ℕ) → here f i at err p ≡ false → err ≡ false
    → p ≡ e → found_if (option_map part_view f) (holds i at e) r ≡ option_map part_view f
other-kept (Some x) i at p e err r is ok place = refl
other-kept None i at p e err r is ok place =
    let it : holds i at e ≡ false =
    subst (λ m. nat_le at i && nat_lt i m ≡ false) place (subst (λ b. nat_le at i && (b || nat_lt i p) ≡ false) ok is) in
    ap (λ b. if b then Some r else None) it

-- what is kept after a part, if it is the one; and if not
pub passed-here : (f : Option Part) (i k at p e b : ℕ) (err : Bool) (token : List ℕ) (part : Part) → here f i at err p ≡ true
    → err ≡ false → p ≡ e → string_bytes part.step ≡ token → part.begin ≡ b
    → ◌≡◌ {A = Outcome (Unit {0}) Sought} (gives (record {
      index = i;
      passed = k;
      found = found_if (option_map part_view f) (holds i at e) (token, b);
    })) (gives (record { index = i; passed = k; found = Some (part_view part) }))
passed-here f i k at p e b err token part is ok place step begins =
    ap (λ x. gives (record { index = i; passed = k; found = x }))
    (here-found f i at p e err (part_view part) (token, b) is ok place
    (ap (λ s. (s, b)) (sym step) ∙ ap (λ m. (string_bytes part.step, m)) (sym begins)))

pub passed-other : (f : Option Part) (i k at p e : ℕ) (err : Bool) (q : List ℕ × ℕ) → here f i at err p ≡ false
    → err ≡ false → p ≡ e
    → ◌≡◌ {A = Outcome (Unit {0}) Sought} (gives (record {
      index = i;
      passed = k;
      found = found_if (option_map part_view f) (holds i at e) q;
    })) (gives (record { index = i; passed = k; found = option_map part_view f }))
passed-other f i k at p e err q is ok place =
    ap (λ x. gives (record { index = i; passed = k; found = x })) (other-kept f i at p e err q is ok place)

pub passed-as : (i k m : ℕ) (f : Option (List ℕ × ℕ)) → m ≡ k
    → ◌≡◌ {A = Outcome (Unit {0}) Sought} (gives (record { index = i; passed = k; found = f }))
    (gives (record { index = i; passed = m; found = f }))
passed-as i k m f is = ap (λ x. gives (record { index = i; passed = x; found = f })) (sym is)

-- An error that isn't out of memory.
pub no-memory : {C : Type 0} (e : WalkError C) (b : Bool) → b ≡ is_memory_reason (reason e) → b ≡ false → IsOutOfMemory e → ⊥
no-memory e b is none m =
    let both : false ≡ true = sym none ∙ is ∙ ap is_memory_reason m in absurd (cc)

-- The parts of a container are all passed.
pub items-not_failed : (t : List ℕ) (ns : Nodes) (s : Sought) (r : Reason (Unit {0})) (i : ℕ)
    → items_walked item_passed t s ns ≡ fails r i → ⊥
items-not_failed t Nodes.no_nodes s r i is = nothing-some s (ap given (sym is))
items-not_failed t (Nodes.node n ns) s r i is = items-not_failed t ns _ r i is

pub members-not_failed : (t : List ℕ) (ms : NodeMembers) (s : Sought) (r : Reason (Unit {0})) (i : ℕ)
    → members_walked member_passed t s ms ≡ fails r i → ⊥
members-not_failed t NodeMembers.no_members s r i is = nothing-some s (ap given (sym is))
members-not_failed t (NodeMembers.member k n ms) s r i is = members-not_failed t ms _ r i is

-- ---- the first byte of a value
module _ (t : List ℕ) (p : ℕ) (P : Node → Type 0) (c j : ℕ) (told : peek (reader t p) ≡ gave c j) where
  byte-is : (n : Node) → Comes (reader t p) n → c ≡ slice_index t (begin n)
  byte-is n comes = (gave-is c _ j _ (sym told ∙ (comes-tells (reader t p) n comes).peeked)).0

  byte-starts : (n : Node) → Comes (reader t p) n → start_of c ≡ start_is n
  byte-starts n comes = ap start_of (byte-is n comes) ∙ node-starts false t n comes.spelled

  pub of-array : c ≡ 91 → ((b e : ℕ) (ns : Nodes) → Comes (reader t p) (Node.array b e ns) → P (Node.array b e ns))
      → (n : Node) → Comes (reader t p) n → P n
  of-array is h (Node.array b e ns) comes = h b e ns comes
  of-array is h (Node.object b e ms) comes =
      let other : start.Array ≡ start.Object = sym (ap start_of is) ∙ byte-starts (Node.object b e ms) comes in absurd (cc)
  of-array is h (Node.literal l b e) comes =
      let other : start.Array ≡ start.Literal l = sym (ap start_of is) ∙ byte-starts (Node.literal l b e) comes in absurd (cc)
  of-array is h (Node.number b e) comes =
      let other : start.Array ≡ start.Number = sym (ap start_of is) ∙ byte-starts (Node.number b e) comes in absurd (cc)
  of-array is h (Node.string ps b e) comes =
      let other : start.Array ≡ start.String = sym (ap start_of is) ∙ byte-starts (Node.string ps b e) comes in absurd (cc)

  pub of-object : c ≡ 123
      → ((b e : ℕ) (ms : NodeMembers) → Comes (reader t p) (Node.object b e ms) → P (Node.object b e ms))
      → (n : Node) → Comes (reader t p) n → P n
  of-object is h (Node.object b e ms) comes = h b e ms comes
  of-object is h (Node.array b e ns) comes =
      let other : start.Object ≡ start.Array = sym (ap start_of is) ∙ byte-starts (Node.array b e ns) comes in absurd (cc)
  of-object is h (Node.literal l b e) comes =
      let other : start.Object ≡ start.Literal l = sym (ap start_of is) ∙ byte-starts (Node.literal l b e) comes in absurd (cc)
  of-object is h (Node.number b e) comes =
      let other : start.Object ≡ start.Number = sym (ap start_of is) ∙ byte-starts (Node.number b e) comes in absurd (cc)
  of-object is h (Node.string ps b e) comes =
      let other : start.Object ≡ start.String = sym (ap start_of is) ∙ byte-starts (Node.string ps b e) comes in absurd (cc)
