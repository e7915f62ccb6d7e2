-- What a scan of some bytes says about the pieces of a text.
use Rattle.std.proofs.Common.{◌≡◌, ◌∙◌, ap, refl, sym, subst, ℕ, Bool, true, false, List, [], ◌∷◌, ◌++◌, Option, Some, None, IfSome}
use Rattle.std.proofs.Common.{append_assoc, append-nil, eqb-true, ne_eqb}
use Rattle.std.specs.Prelude.{◌==◌, ◌&&◌, ◌||◌, nat_eq}
use Rattle.std.specs.Io.{StartsWith, appended_bytes}
use Rattle.std.proofs.KnownBytes.{Consumes-trans, starts_with_rest}
use Rattle.std.specs.Io.KnownBytes.{Consumes, IsAtEnd, Keeps}
use Rattle.json_lines.specs.Items.{Pieces, Place, after_backslash, bracket, comma, cut, ends_item, in_string, outside, pieces, place_after, with_byte}
use Rattle.json_lines.specs.ItemsRead.{EndsSo, IsNextByte, Passes, TakesByte, TakesPiece, begins_with_mark, end_byte, end_bytes, pieces_by, with_bytes}
use Rattle.json_lines.specs.declared.array.Ended.{Ended}
use Rattle.json_lines.specs.declared.array.Ended.TheVariants as ended

with-bytes-append : (a b : List ℕ) (ps : Pieces) → with_bytes (a ++ b) ps ≡ with_bytes a (with_bytes b ps)
with-bytes-append [] b ps = refl
with-bytes-append (x ∷ a) b ps = ap (with_byte x) (with-bytes-append a b ps)

pub passes-none : (p : Place) → Passes p [] p
passes-none p rest = refl

pub passes-one : (p : Place) (b : ℕ) → ends_item p b ≡ false → Passes p (b ∷ []) (place_after p b)
passes-one p b other rest = rw other refl

pub passes-more : (p q r : Place) (a b : List ℕ) → Passes p a q → Passes q b r → Passes p (a ++ b) r
passes-more p q r a b x y rest =
    ap (pieces p) (append_assoc a b rest) ∙ x (b ++ rest) ∙ ap (with_bytes a) (y rest)
    ∙ sym (with-bytes-append a b (pieces r rest))

-- ---- the end of a piece
with-bytes-comma : (bs : List ℕ) (more : Pieces) → with_bytes bs (comma [] more) ≡ comma bs more
with-bytes-comma [] more = refl
with-bytes-comma (b ∷ bs) more = ap (with_byte b) (with-bytes-comma bs more)

with-bytes-bracket : (bs rest : List ℕ) → with_bytes bs (bracket [] rest) ≡ bracket bs rest
with-bytes-bracket [] rest = refl
with-bytes-bracket (b ∷ bs) rest = ap (with_byte b) (with-bytes-bracket bs rest)

with-bytes-cut : (bs : List ℕ) → with_bytes bs (cut []) ≡ cut bs
with-bytes-cut [] = refl
with-bytes-cut (b ∷ bs) = ap (with_byte b) (with-bytes-cut bs)

at-comma : (q : Place) (rest : List ℕ) → ends_item q 44 ≡ true → pieces q (44 ∷ rest) ≡ comma [] (pieces (outside 0) rest)
at-comma q rest is = rw is refl

at-bracket : (q : Place) (rest : List ℕ) → ends_item q 93 ≡ true → pieces q (93 ∷ rest) ≡ bracket [] rest
at-bracket q rest is = rw is refl

ended-so : (q : Place) (e : Ended) (bs rest : List ℕ) → Passes (outside 0) bs q → EndsSo q (Some rest) (Some e)
    → pieces (outside 0) (bs ++ (end_byte e ++ rest)) ≡ pieces_by e bs rest
ended-so q ended.Comma bs rest p is =
    p (44 ∷ rest) ∙ ap (with_bytes bs) (at-comma q rest is) ∙ with-bytes-comma bs (pieces (outside 0) rest)
ended-so q ended.Bracket bs rest p is =
    p (93 ∷ rest) ∙ ap (with_bytes bs) (at-bracket q rest is) ∙ with-bytes-bracket bs rest
ended-so q ended.Input bs rest p none =
    ap (λ l. pieces (outside 0) (bs ++ l)) none ∙ p [] ∙ with-bytes-cut bs

pub takes-piece : (q : Place) (e : Ended) (bs : List ℕ) (old new : Option (List ℕ)) → Passes (outside 0) bs q
    → Consumes old new (bs ++ end_byte e) → IfSome old (λ _. EndsSo q new (Some e)) → TakesPiece old new e bs
takes-piece q e bs None new p read ends = tt
takes-piece q e bs (Some xs) None p read ends = absurd read
takes-piece q e bs (Some xs) (Some rest) p read ends =
    let whole : xs ≡ bs ++ (end_byte e ++ rest) = read ∙ append_assoc bs (end_byte e) rest in
    (rest, refl, whole, ap (pieces (outside 0)) whole ∙ ended-so q e bs rest p ends)

-- ---- bytes that are appended to a piece
pub piece-goes-on : (p q : Place) (old new : List ℕ) → StartsWith new old → Passes (outside 0) old p
    → Passes p (appended_bytes old new) q → Passes (outside 0) new q
piece-goes-on p q old new grows x y =
    subst (λ l. Passes (outside 0) l q) (sym (starts_with_rest new old grows))
    (passes-more (outside 0) p q old (appended_bytes old new) x y)

pub bytes-taken : (a b c : Option (List ℕ)) (old new last : List ℕ) → StartsWith new old → Consumes a b old
    → Consumes b c (appended_bytes old new ++ last) → Consumes a c (new ++ last)
bytes-taken a b c old new last grows x y =
    let whole : old ++ (appended_bytes old new ++ last) ≡ new ++ last =
    sym (append_assoc old (appended_bytes old new) last) ∙ ap (λ l. l ++ last) (sym (starts_with_rest new old grows)) in
    subst (Consumes a c) whole (Consumes-trans a b c old (appended_bytes old new ++ last) x y)

-- a piece that goes on
pub no-end : (a b : Option (List ℕ)) (bs : List ℕ) (e : Option Ended) → e ≡ None → Consumes a b (bs ++ end_bytes e) → Consumes a b bs
no-end a b bs e none h = subst (Consumes a b) (ap (λ x. bs ++ end_bytes x) none ∙ append-nil bs) h

-- what is known of bytes that were there before is known of those that are left
pub known-before : (a b : Option (List ℕ)) (bs : List ℕ) (P : Type 0) → Consumes a b bs → IfSome b (λ _. P) → IfSome a (λ _. P)
known-before None b bs P read h = tt
known-before (Some xs) None bs P read h = absurd read
known-before (Some xs) (Some ys) bs P read h = h

-- the byte that ends a piece is a comma or a bracket
pub is-bracket : (p : Place) (b : ℕ) → ends_item p b ≡ true → (b ≡ 44 → ⊥) → b ≡ 93
is-bracket (outside d) b is other = by (d == 0) is where
  by : (c : Bool) → (c && ((b == 44) || (b == 93))) ≡ true → b ≡ 93
  by true is = eqb-true b 93 (rw (ne_eqb b 44 other) at is)
  by false is = absurd (cc)
is-bracket (in_string d) b is other = absurd (cc)
is-bracket (after_backslash d) b is other = absurd (cc)

-- what a reader shows, where it shows nothing
pub at-end : (a b : Option (List ℕ)) (n : ℕ) → n ≡ 0 → IfSome a (λ xs. n ≡ 0 → xs ≡ []) → Keeps a b → IfSome a (λ _. IsAtEnd b)
at-end None b n none end kept = tt
at-end (Some xs) None n none end kept = absurd kept
at-end (Some xs) (Some ys) n none end kept = kept ∙ end none

-- ---- single bytes
pub takes-byte : (old mid new : Option (List ℕ)) (b : ℕ) → Keeps old mid → Consumes mid new (b ∷ []) → TakesByte old new (Some b)
takes-byte None mid new b kept read = tt
takes-byte (Some xs) None new b kept read = absurd kept
takes-byte (Some xs) (Some ys) None b kept read = absurd read
takes-byte (Some xs) (Some ys) (Some zs) b kept read = (zs, refl, sym kept ∙ read)

pub takes-none : (old mid new : Option (List ℕ)) → Keeps old mid → Consumes mid new [] → IsAtEnd new → TakesByte old new None
takes-none None mid new kept read end = tt
takes-none (Some xs) None new kept read end = absurd kept
takes-none (Some xs) (Some ys) None kept read end = absurd read
takes-none (Some xs) (Some ys) (Some zs) kept read end = (zs, refl, (sym kept ∙ read ∙ end, end))

-- ---- a byte order mark
pub no-mark : (b : ℕ) (rest : List ℕ) → (b == 239) ≡ false → begins_with_mark (b ∷ rest) ≡ false
no-mark b rest other =
    let differs : (239 ≡ b) → ⊥ = λ e. let same = subst (λ x. (x == 239) ≡ false) (sym e) other in absurd (cc) in
    rw (ne_eqb 239 b differs) refl

-- a test of two bytes that fails, whatever else is tested
tested-no : (c r : Bool) → (c && true) ≡ false → (c && r) ≡ false
tested-no true r other = absurd (cc)
tested-no false r other = refl

pub half-mark : (xs : List ℕ) (new : Option (List ℕ)) → IsNextByte false 187 xs new → begins_with_mark (239 ∷ xs) ≡ false
half-mark [] new other = refl
half-mark (x ∷ xs) new other = tested-no (nat_eq 187 x) _ other

pub whole-mark : (xs : List ℕ) (new new' : Option (List ℕ)) (is : Bool) → IsNextByte true 187 xs new
    → IfSome new (λ ys. IsNextByte is 191 ys new') → is ≡ begins_with_mark (239 ∷ xs)
whole-mark xs new new' is (ys, left, first) last = rw first (second is ys (subst (λ o. IfSome o (λ ys. IsNextByte is 191 ys new')) left last)) where
  second : (is : Bool) (ys : List ℕ) → IsNextByte is 191 ys new' → is ≡ begins_with_mark (239 ∷ 187 ∷ ys)
  second true ys (zs, left, more) = rw more refl
  second false [] other = refl
  second false (y ∷ ys) other = sym (tested-no (nat_eq 191 y) true other)
