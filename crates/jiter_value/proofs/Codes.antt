-- The codes that equality compares tell what a tree holds, and no more.
use Rattle.jiter_value.proofs.Words.{◌≡◌, ℕ, ℤ, pos, Bool, true, false, List, [], ◌∷◌, ◌++◌, length, take, drop, refl}
use Rattle.jiter_value.proofs.Words.{sym, ap, ap₂, ◌∙◌, append_assoc, take-append_seam, Decides, Text, Tree, null}
use Rattle.jiter_value.proofs.Words.{boolean, int, float, string, array, object, Items, no_items, item, Members}
use Rattle.jiter_value.proofs.Words.{no_members, member, owned_text, owned_tree, HoldSame}
use Rattle.std.proofs.Common.{negsuc}
use Rattle.std.proofs.Common.{append-nil}
use Rattle.std.proofs.Math.Seq.{drop-append_seam}
use Rattle.std.proofs.lemmas.Slice.Eq.{slice_eq-Decides}
use Rattle.std.specs.Bool.{one_answer}
use Rattle.std.specs.Cmp.{unsigned_Decides}
use Rattle.jiter_steps.specs.Tree.{big}
use Rattle.jiter_value.specs.Equality.{code, code_bool, code_int, code_bytes, code_items, code_members, same_content}
use Rattle.jiter_value.specs.Owned.{owned_items, owned_members}
use Rattle.jiter_value.proofs.Equal.{along}

-- ---- where texts lie has no part in a code
mutual
  code-owned : (v : Tree) → code (owned_tree v) ≡ code v
  code-owned null = refl
  code-owned (boolean b) = refl
  code-owned (int z) = refl
  code-owned (big s) = refl
  code-owned (float s) = refl
  code-owned (string s) = refl
  code-owned (array is) = ap (λ bs. 6 ∷ bs) (code_items-owned is)
  code-owned (object ms) = ap (λ bs. 7 ∷ bs) (code_members-owned ms)

  code_items-owned : (is : Items) → code_items (owned_items is) ≡ code_items is
  code_items-owned no_items = refl
  code_items-owned (item v is) = rw (code-owned v, code_items-owned is) refl

  code_members-owned : (ms : Members) → code_members (owned_members ms) ≡ code_members ms
  code_members-owned no_members = refl
  code_members-owned (member k v ms) = rw (code-owned v, code_members-owned ms) refl

-- ---- no code begins another
after : {m n : ℕ} {xs ys : List ℕ} → m ∷ xs ≡ n ∷ ys → xs ≡ ys
after e = cc

heads : {m n : ℕ} {xs ys : List ℕ} → m ∷ xs ≡ n ∷ ys → m ≡ n
heads e = cc

bool-tells : (b c : Bool) (x y : List ℕ) → code_bool b ++ x ≡ code_bool c ++ y → (b ≡ c) × (x ≡ y)
bool-tells false false x y e = (refl, after e)
bool-tells true true x y e = (refl, after e)
bool-tells b c x y e = absurd (cc)

int-tells : (z w : ℤ) (x y : List ℕ) → code_int z ++ x ≡ code_int w ++ y → (z ≡ w) × (x ≡ y)
int-tells (pos m) (pos n) x y e = (ap pos (heads (after e)), after (after e))
int-tells (negsuc m) (negsuc n) x y e = (ap negsuc (heads (after e)), after (after e))
int-tells z w x y e = absurd (cc)

text-tells : (s u : Text) (x y : List ℕ) → code_bytes s.bytes ++ x ≡ code_bytes u.bytes ++ y
    → (owned_text s ≡ owned_text u) × (x ≡ y)
text-tells s u x y e =
    let long : length s.bytes ≡ length u.bytes = heads e in
    let rest : s.bytes ++ x ≡ u.bytes ++ y = after e in
    let bytes : s.bytes ≡ u.bytes = sym (take-append_seam s.bytes x) ∙ ap₂ (λ n l. take n l) long rest
    ∙ take-append_seam u.bytes y in
    let more : x ≡ y = sym (drop-append_seam s.bytes x) ∙ ap₂ (λ n l. drop n l) long rest
    ∙ drop-append_seam u.bytes y in
    (ap (λ bs. record { owned = true; bytes = bs }) bytes, more)

mutual
  tells : (v w : Tree) (x y : List ℕ) → code v ++ x ≡ code w ++ y → HoldSame v w × (x ≡ y)
  tells null null x y e = (refl, after e)
  tells (boolean b) (boolean c) x y e = let h = bool-tells b c x y (after e) in (ap boolean h.0, h.1)
  tells (int z) (int w) x y e = let h = int-tells z w x y (after e) in (ap int h.0, h.1)
  tells (big s) (big u) x y e = let h = text-tells s u x y (after e) in (ap big h.0, h.1)
  tells (float s) (float u) x y e = let h = text-tells s u x y (after e) in (ap float h.0, h.1)
  tells (string s) (string u) x y e = let h = text-tells s u x y (after e) in (ap string h.0, h.1)
  tells (array is) (array js) x y e = let h = items-tell is js x y (after e) in (ap array h.0, h.1)
  tells (object ms) (object ns) x y e = let h = members-tell ms ns x y (after e) in (ap object h.0, h.1)
  tells v w x y e = absurd (cc)

  items-tell : (is js : Items) (x y : List ℕ) → code_items is ++ x ≡ code_items js ++ y
      → (owned_items is ≡ owned_items js) × (x ≡ y)
  items-tell no_items no_items x y e = (refl, after e)
  items-tell (item v is) (item w js) x y e =
      let first = tells v w (code_items is ++ x) (code_items js ++ y)
      (sym (append_assoc (code v) (code_items is) x) ∙ after e ∙ append_assoc (code w) (code_items js) y) in
      let more = items-tell is js x y first.1 in
      (rw (first.0, more.0) refl, more.1)
  items-tell is js x y e = absurd (cc)

  members-tell : (ms ns : Members) (x y : List ℕ) → code_members ms ++ x ≡ code_members ns ++ y
      → (owned_members ms ≡ owned_members ns) × (x ≡ y)
  members-tell no_members no_members x y e = (refl, after e)
  members-tell (member k v ms) (member l w ns) x y e =
      let key = text-tells k l ((code v ++ code_members ms) ++ x) ((code w ++ code_members ns) ++ y)
      (sym (append_assoc (code_bytes k.bytes) (code v ++ code_members ms) x) ∙ after e
      ∙ append_assoc (code_bytes l.bytes) (code w ++ code_members ns) y) in
      let first = tells v w (code_members ms ++ x) (code_members ns ++ y)
      (sym (append_assoc (code v) (code_members ms) x) ∙ key.1 ∙ append_assoc (code w) (code_members ns) y) in
      let more = members-tell ms ns x y first.1 in
      (rw (key.0, first.0, more.0) refl, more.1)
  members-tell ms ns x y e = absurd (cc)

code-hold : (v w : Tree) → code v ≡ code w → HoldSame v w
code-hold v w e =
    let h = tells v w [] [] (append-nil (code v) ∙ e ∙ sym (append-nil (code w))) in h.0

-- equality decides whether two trees hold the same
pub content-decides : (v w : Tree) → Decides (same_content v w) (HoldSame v w)
content-decides v w =
    along (slice_eq-Decides unsigned_Decides (code v) (code w) (same_content v w) refl) (code-hold v w)
    (λ h. sym (code-owned v) ∙ ap code h ∙ code-owned w)

pub eq-is : (b : Bool) (v w : Tree) → Decides b (HoldSame v w) → b ≡ same_content v w
eq-is b v w d = one_answer b (same_content v w) d (content-decides v w)
