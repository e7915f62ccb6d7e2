-- The innermost of the open containers of a value that comes in chunks.
use Rattle.jiter_incremental.proofs.Words.{◌≡◌, ℕ, ◌+◌, ◌-◌, List, [], ◌∷◌, length, refl, sym, ap, ◌∙◌, arith, take}
use Rattle.jiter_incremental.proofs.Words.{length-append, Vec, rules, subst, Global, CowStr, IsUtf8, false≢true}
use Rattle.jiter_incremental.proofs.Words.{text_view, text_of, Text, Tree, string, ContainerKind, OpenFrame, around}
use Rattle.jiter_incremental.proofs.Words.{filled, Member, PartTree, built, view, JsonValue, Array, Object}
use Rattle.jiter_incremental.proofs.Words.{out-JsonValue, the_lemmas, JsonValue-F, view_array, view_object}
use Rattle.std.specs.declared.borrow.CowStr.TheVariants as text
use Rattle.std.proofs.lemmas.Str.{IsUtf8-string_bytes}
use Rattle.jiter_value.specs.declared.value.JsonValue.{Str}
use Rattle.jiter_value.proofs.Views.{view_str}
use Rattle.jiter_incremental.proofs.Slots.{filled-push, last-item, last-member, last-of, out-array, out-object}

-- The outermost of more than one container, and what is in it
pub record Outermost (depth : ℕ) (v : Tree) (h : ContainerKind) (xs : List (PartTree h)) : Type 0 where
  pub frame : OpenFrame
  pub others : List OpenFrame
  pub is : v ≡ around frame (filled others (built h xs))
  pub deep : depth - 1 ≡ length others + 1

pub outermost : (depth : ℕ) (v : Tree) (h : ContainerKind) (xs : List (PartTree h)) (fs : List OpenFrame)
    → (depth ≡ 1 → ⊥) → depth ≡ length fs + 1 → v ≡ filled fs (built h xs) → Outermost depth v h xs
outermost depth v h xs [] more deep is = absurd (more deep)
outermost depth v h xs (g ∷ gs) more deep is =
    let fs = g ∷ gs in
    let l = last-of fs (omega arith) in
    let others = take (length fs - 1) fs in
    record {
      frame = l.0;
      others = others;
      is = is ∙ ap (λ hs. filled hs (built h xs)) l.1 ∙ filled-push others l.0 (built h xs);
      deep = omega (arith, deep, ap length l.1, length-append others (l.0 ∷ []));
    }

-- No other value has a last part.
pub none-other : (v : JsonValue) (f : OpenFrame) (x : Tree) → view v ≡ around f x
    → ((w : Vec JsonValue Global) → v ≡ Array w → ⊥) → ((w : Vec Member Global) → v ≡ Object w → ⊥) → ⊥
none-other v f x is no-array no-object = search (rules, the_lemmas)

back-array : (v : JsonValue) (w : Vec JsonValue Global) → out-JsonValue v ≡ JsonValue-F.Array w → v ≡ Array w
back-array v w is = search (rules, the_lemmas)

back-object : (v : JsonValue) (w : Vec Member Global) → out-JsonValue v ≡ JsonValue-F.Object w → v ≡ Object w
back-object v w is = search (rules, the_lemmas)

back-str : (v : JsonValue) (s : CowStr Global) → out-JsonValue v ≡ JsonValue-F.Str s → v ≡ Str s
back-str v s is = search (rules, the_lemmas)

out-str : (s : CowStr Global) → out-JsonValue (Str s) ≡ JsonValue-F.Str s
out-str s = search (rules, the_lemmas)

-- the last part of a container
part-of : (v : JsonValue) (f : OpenFrame) (x : Tree) → view v ≡ around f x → (y : JsonValue) × (view y ≡ x)
part-of v f x h = by (out-JsonValue v) refl where
  other : (y : JsonValue-F JsonValue) → out-JsonValue v ≡ y
      → ((w : Vec JsonValue Global) → y ≡ JsonValue-F.Array w → ⊥)
      → ((w : Vec Member Global) → y ≡ JsonValue-F.Object w → ⊥) → ⊥
  other y is no-array no-object =
      none-other v f x h
      (λ w e. no-array w (sym is ∙ ap out-JsonValue e ∙ out-array w))
      (λ w e. no-object w (sym is ∙ ap out-JsonValue e ∙ out-object w))

  by : (y : JsonValue-F JsonValue) → out-JsonValue v ≡ y → (y : JsonValue) × (view y ≡ x)
  by (JsonValue-F.Array w) is =
      let l = last-item w.items f x (sym (view_array w) ∙ ap view (sym (back-array v w is)) ∙ h) in (l.old, l.part)
  by (JsonValue-F.Object w) is =
      let l = last-member w.items f x (sym (view_object w) ∙ ap view (sym (back-object v w is)) ∙ h) in (l.old, l.part)
  by JsonValue-F.Null is = absurd (other _ is (λ w e. absurd (cc)) (λ w e. absurd (cc)))
  by (JsonValue-F.Bool b) is = absurd (other _ is (λ w e. absurd (cc)) (λ w e. absurd (cc)))
  by (JsonValue-F.Int b) is = absurd (other _ is (λ w e. absurd (cc)) (λ w e. absurd (cc)))
  by (JsonValue-F.BigInt b) is = absurd (other _ is (λ w e. absurd (cc)) (λ w e. absurd (cc)))
  by (JsonValue-F.Float b) is = absurd (other _ is (λ w e. absurd (cc)) (λ w e. absurd (cc)))
  by (JsonValue-F.Str b) is = absurd (other _ is (λ w e. absurd (cc)) (λ w e. absurd (cc)))

-- What is inside open containers is a value.
pub inside-of : (fs : List OpenFrame) (v : JsonValue) (x : Tree) → view v ≡ filled fs x → (y : JsonValue) × (view y ≡ x)
inside-of [] v x h = (v, h)
inside-of (f ∷ fs) v x h = let r = inside-of fs v (around f x) h in part-of r.0 f x r.1

-- A string of its own is UTF-8.
none-string : (v : JsonValue) (s : Text) → view v ≡ string s → ((w : CowStr Global) → v ≡ Str w → ⊥) → ⊥
none-string v s is no-string = search (rules, the_lemmas)

string-same : (a b : Text) → string a ≡ string b → a ≡ b
string-same a b h = cc

owned-utf8 : (s : CowStr Global) (u : List ℕ) → text_view s ≡ text_of u → IsUtf8 u
owned-utf8 (text.Owned s) u h = subst IsUtf8 (ap (λ (w : Text). w.bytes) h) (IsUtf8-string_bytes s)
owned-utf8 (text.Borrowed r) u h = absurd (false≢true (ap (λ (w : Text). w.owned) h))

pub utf8-of : (v : JsonValue) (u : List ℕ) → view v ≡ string (text_of u) → IsUtf8 u
utf8-of v u h = by (out-JsonValue v) refl where
  other : (y : JsonValue-F JsonValue) → out-JsonValue v ≡ y
      → ((w : CowStr Global) → y ≡ JsonValue-F.Str w → ⊥) → ⊥
  other y is no-string =
      none-string v (text_of u) h (λ w e. no-string w (sym is ∙ ap out-JsonValue e ∙ out-str w))

  by : (y : JsonValue-F JsonValue) → out-JsonValue v ≡ y → IsUtf8 u
  by (JsonValue-F.Str s) is =
      owned-utf8 s u (string-same (text_view s) (text_of u) (sym (view_str s) ∙ ap view (sym (back-str v s is)) ∙ h))
  by JsonValue-F.Null is = absurd (other _ is (λ w e. absurd (cc)))
  by (JsonValue-F.Bool b) is = absurd (other _ is (λ w e. absurd (cc)))
  by (JsonValue-F.Int b) is = absurd (other _ is (λ w e. absurd (cc)))
  by (JsonValue-F.BigInt b) is = absurd (other _ is (λ w e. absurd (cc)))
  by (JsonValue-F.Float b) is = absurd (other _ is (λ w e. absurd (cc)))
  by (JsonValue-F.Array b) is = absurd (other _ is (λ w e. absurd (cc)))
  by (JsonValue-F.Object b) is = absurd (other _ is (λ w e. absurd (cc)))
