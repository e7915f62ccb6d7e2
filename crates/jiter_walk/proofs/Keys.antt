-- The key that is found by a name: a member with it is a member with the name.
use Rattle.std.proofs.Common.{◌≡◌, ℕ, Bool, true, false, not, List, [], ◌∷◌, refl, sym, ap, subst}
use Rattle.std.proofs.lemmas.Bool.{and_parts, false≢true}
use Rattle.std.proofs.lemmas.Slice.Eq.{bytes_eq-Decides}
use Rattle.std.specs.Prelude.{Option, Some, None, Result, if◌then◌else◌}
use Rattle.std.specs.Str.{bytes_eq}
use Rattle.jiter.specs.Caller.{Node, ReaderState}
use Rattle.jiter_walk.specs.declared.walk_error.WalkError.{WalkError}
use Rattle.jiter_walk.specs.Walk.{Outcome, Returns, Walks}
use Rattle.jiter_walk.specs.Table.{Field, IsNameIn, Slots, Table, Unknown, differs, set, set_among, set_named}
use Rattle.jiter_walk.specs.Table.{unless_unknown}

-- A walk whose meaning is also said so.
pub walks-same : {C X A : Type 0} (view : X → A) (means also : List ℕ → Node → Outcome C A) (result : Result X (WalkError C))
    (old new : ReaderState) → ((n : Node) → means old.text n ≡ also old.text n) → Walks view means result old new
    → Walks view also result old new
walks-same view means also result old new same w = record {
  moves = w.moves;
  value = λ n comes. subst (Returns view result) (same n) (w.value n comes);
  place = w.place;
  reads = w.reads;
  index = w.index;
  memory = w.memory;
}

unset : {C S : Type 0} (u : Unknown C) (fs : List (Field C)) (put : Slots fs → S) (t key : List ℕ) (i : ℕ) (n : Node)
    (s : Slots fs) → differs key fs ≡ true → unless_unknown u i (put s) ≡ set_among u fs put t key i n s
unset u [] put t key i n s h = refl
unset u (f ∷ fs) put t key i n s h =
    let parts = and_parts (not (bytes_eq key f.key)) (differs key fs) h in
    by (bytes_eq key f.key) parts.0 _ (unset u fs (λ r. put (s.0, r)) t key i n s.1 parts.1) where
      by : {A : Type 0} {x z : A} (b : Bool) → not b ≡ true → (y : A) → x ≡ z → x ≡ (if b then y else z)
      by true h y is = absurd (false≢true h)
      by false h y is = is

-- What a member sets by its key is what it sets by its name.
pub key-sets : {C : Type 0} (x : Table C) (t key : List ℕ) (i : ℕ) (n : Node) (s : Slots x.fields) (o : Option (List ℕ))
    → IsNameIn x.fields key o → set_named x t o i n s ≡ set x t key i n s
key-sets x t key i n s (Some y) h = ap (λ k. set x t k i n s) (sym ((bytes_eq-Decides key y).0 h))
key-sets x t key i n s None h = unset x.unknown x.fields (λ r. r) t key i n s h
