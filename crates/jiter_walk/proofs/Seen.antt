-- A walk whose result is seen as something else, and the first byte of a `null`.
use Rattle.std.proofs.Common.{◌≡◌, ◌∙◌, ◌==◌, ℕ, Bool, true, false, List, refl, sym, ap, arith}
use Rattle.std.proofs.lemmas.Bool.Decides.{nat_tests}
use Rattle.std.specs.Prelude.{Result, Ok, Err, IsErrAnd}
use Rattle.jiter_steps.specs.declared.parse.Literal.TheVariants as literal
use Rattle.jiter_steps.specs.declared.parse.Start.{Start}
use Rattle.jiter_steps.specs.declared.parse.Start.TheVariants as start
use Rattle.jiter.specs.Caller.{Node, ReaderState, Tree, gave, is_null_tree, peek, start_of, tree_start, value_of}
use Rattle.jiter.proofs.Walking.{gave-is}
use Rattle.jiter_walk.specs.declared.walk_error.WalkError.{WalkError}
use Rattle.jiter_walk.specs.Walk.{Comes, Outcome, Walks, fails, gives, index_of, reason}
use Rattle.jiter_walk.proofs.Coming.{comes-tells}
use Rattle.jiter_walk.proofs.Passing.{walk-fails}

-- What was returned, seen by another view and meaning.
pub walk-seen : {C X A Y B : Type 0} (view : X → A) (meaning : List ℕ → Node → Outcome C A) (a : X) (s0 s : ReaderState)
    → Walks {C = C} view meaning (Ok a) s0 s → (see : Y → B) (means : List ℕ → Node → Outcome C B) (b : Y)
    → ((n : Node) → Comes s0 n → meaning s0.text n ≡ gives (view a) → means s0.text n ≡ gives (see b))
    → Walks see means (Ok b) s0 s
walk-seen view meaning a s0 s w see means b h = record {
  moves = w.moves;
  value = λ n comes. h n comes (w.value n comes);
  place = w.place;
  reads = w.reads;
  index = tt;
  memory = tt;
}

-- An error, seen so.
pub error-seen : {C X A Y B : Type 0} (view : X → A) (meaning : List ℕ → Node → Outcome C A) (e : WalkError C)
    (s0 s : ReaderState) → Walks view meaning (Err e) s0 s → (see : Y → B) (means : List ℕ → Node → Outcome C B)
    (x : Result Y (WalkError C)) → IsErrAnd x (λ d. d ≡ e)
    → ((n : Node) → Comes s0 n → meaning s0.text n ≡ fails (reason e) (index_of e)
    → means s0.text n ≡ fails (reason e) (index_of e))
    → Walks see means x s0 s
error-seen view meaning e s0 s w see means x is h =
    walk-fails see means x s0 s w.moves e is (λ n comes bytes. h n comes (w.value n comes bytes)) w.index w.memory

-- `null` begins there.
abbrev begins_null : Start → Bool
begins_null (start.Literal literal.Null) = true
begins_null b = false

null-begins : (v : Tree) → begins_null (tree_start v) ≡ is_null_tree v
null-begins Tree.null = refl
null-begins (Tree.boolean true) = refl
null-begins (Tree.boolean false) = refl
null-begins (Tree.int z) = refl
null-begins (Tree.big s) = refl
null-begins (Tree.float s) = refl
null-begins (Tree.string s) = refl
null-begins (Tree.array vs) = refl
null-begins (Tree.object ms) = refl

null-byte : (c : ℕ) → begins_null (start_of c) ≡ (c == 110)
null-byte c = grind (arith, nat_tests)

-- A value is `null` where its first byte is `n`.
pub null-peeked : (s : ReaderState) (n : Node) → Comes s n → (c i : ℕ) → peek s ≡ gave c i
    → is_null_tree (value_of s.text n) ≡ (c == 110)
null-peeked s n comes c i is =
    let told = comes-tells s n comes in
    let byte = (gave-is _ _ _ _ (sym told.peeked ∙ is)).0 in
    sym (null-begins (value_of s.text n)) ∙ ap begins_null (sym told.starts) ∙ ap (λ x. begins_null (start_of x)) byte
    ∙ null-byte c
