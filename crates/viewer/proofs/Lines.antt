-- What a piece more adds to what is shown.
use Rattle.std.proofs.Common.{◌≡◌, ◌∙◌, ap, refl, sym, subst, ℕ, Bool, true, false, List, [], ◌∷◌, ◌++◌}
use Rattle.std.proofs.Common.{Option, Some, None}
use Rattle.std.proofs.Common.{append_assoc, append-nil}
use Rattle.std.specs.Prelude.{bytes_eq, if◌then◌else◌, not}
use Rattle.std.specs.List.{concat, dedup, dedup_from, flat_map}
use Rattle.std.proofs.lemmas.Grind.{flat_map-append}
use Rattle.std.proofs.lemmas.List.Folds.{concat-append}
use Rattle.std.proofs.lemmas.Slice.Eq.{bytes_eq-Decides}
use Rattle.viewer.specs.Shown.{prefixes, if_any, last_line, lines_at, lines_of, new_line}
use Rattle.json_screen.specs.declared.input.Options.{Options}

-- the last of some lines, where there is one
abbrev pub last_of : List ℕ → List (List ℕ) → List ℕ
last_of d [] = d
last_of d (x ∷ xs) = last_of x xs

-- a line of which no more is written where it is the one before
abbrev pub unless_same : List ℕ → List ℕ → List (List ℕ)
unless_same last line = if bytes_eq line last then [] else line ∷ []

prefixes-more : (t : List ℕ) (ps : List (List ℕ)) (p : List ℕ)
    → prefixes t (ps ++ p ∷ []) ≡ prefixes t ps ++ ((t ++ concat ps) ++ p) ∷ []
prefixes-more t [] p = ap (λ u. (u ++ p) ∷ []) (sym (append-nil t))
prefixes-more t (q ∷ ps) p =
    ap (λ us. (t ++ q) ∷ us) (prefixes-more (t ++ q) ps p
    ∙ ap (λ u. prefixes (t ++ q) ps ++ (u ++ p) ∷ []) (append_assoc t q (concat ps)))

-- the lines of one piece more
pub lines-more : (options : Options) (ps : List (List ℕ)) (p : List ℕ)
    → lines_of options (ps ++ p ∷ []) ≡ lines_of options ps ++ lines_at options (concat ps ++ p)
lines-more options ps p =
    ap (flat_map (lines_at options)) (prefixes-more [] ps p)
    ∙ flat_map-append (lines_at options) (prefixes [] ps) _
    ∙ ap (λ l. lines_of options ps ++ l) (append-nil (lines_at options (concat ps ++ p)))

-- a line more after k and the lines xs
dedup-more : (k : List ℕ) (xs : List (List ℕ)) (x : List ℕ)
    → dedup_from bytes_eq k (xs ++ x ∷ []) ≡ dedup_from bytes_eq k xs ++ unless_same (last_of k xs) x
dedup-more k [] x = by (bytes_eq x k) refl where
  by : (b : Bool) → bytes_eq x k ≡ b → dedup_from bytes_eq k (x ∷ []) ≡ (k ∷ []) ++ unless_same k x
  by true e = rw e refl
  by false e = rw e refl
dedup-more k (y ∷ ys) x = by (bytes_eq y k) refl (dedup-more k ys x) (dedup-more y ys x) where
  by : (b : Bool) → bytes_eq y k ≡ b
      → dedup_from bytes_eq k (ys ++ x ∷ []) ≡ dedup_from bytes_eq k ys ++ unless_same (last_of k ys) x
      → dedup_from bytes_eq y (ys ++ x ∷ []) ≡ dedup_from bytes_eq y ys ++ unless_same (last_of y ys) x
      → dedup_from bytes_eq k (y ∷ ys ++ x ∷ []) ≡ dedup_from bytes_eq k (y ∷ ys) ++ unless_same (last_of y ys) x
  by true e same other =
      let is : y ≡ k = (bytes_eq-Decides y k).0 e in
      rw e (subst (λ l. dedup_from bytes_eq k (ys ++ x ∷ []) ≡ dedup_from bytes_eq k ys ++ unless_same (last_of l ys) x)
      (sym is) same)
  by false e same other = rw e (ap (λ l. k ∷ l) other)

-- What one reading more adds: its line, unless that is the one before.
pub shown-more : (xs : List (List ℕ)) (o : Option (List ℕ))
    → concat (dedup bytes_eq (xs ++ if_any o)) ≡ concat (dedup bytes_eq xs) ++ new_line (last_of [] xs) o
shown-more xs None = ap (λ l. concat (dedup bytes_eq l)) (append-nil xs) ∙ sym (append-nil _)
shown-more [] (Some x) = by (bytes_eq x []) refl where
  by : (b : Bool) → bytes_eq x [] ≡ b → x ++ [] ≡ new_line [] (Some x)
  by true e = rw e (append-nil x ∙ (bytes_eq-Decides x []).0 e)
  by false e = rw e (append-nil x)
shown-more (y ∷ ys) (Some x) =
    ap concat (dedup-more y ys x) ∙ concat-append (dedup_from bytes_eq y ys) (unless_same (last_of y ys) x)
    ∙ ap (λ l. concat (dedup_from bytes_eq y ys) ++ l) (by (bytes_eq x (last_of y ys)) refl) where
      by : (b : Bool) → bytes_eq x (last_of y ys) ≡ b
          → concat (unless_same (last_of y ys) x) ≡ new_line (last_of y ys) (Some x)
      by true e = rw e refl
      by false e = rw e (append-nil x)

-- a line that is another one than the last is written
pub line-shown : (last line : List ℕ) → not (bytes_eq line last) ≡ true → new_line last (Some line) ≡ line
line-shown last line other = by (bytes_eq line last) refl where
  by : (b : Bool) → bytes_eq line last ≡ b → new_line last (Some line) ≡ line
  by true e = let no = sym (ap not e) ∙ other in absurd (cc)
  by false e = rw e refl

-- the last line again is not
pub same-line : (last line : List ℕ) → not (bytes_eq line last) ≡ false → new_line last (Some line) ≡ []
same-line last line same = by (bytes_eq line last) refl where
  by : (b : Bool) → bytes_eq line last ≡ b → new_line last (Some line) ≡ []
  by true e = rw e refl
  by false e = let no = sym (ap not e) ∙ same in absurd (cc)

-- the last line then
pub last-more : (d : List ℕ) (xs : List (List ℕ)) (o : Option (List ℕ))
    → last_of d (xs ++ if_any o) ≡ last_line (last_of d xs) o
last-more d xs None = ap (last_of d) (append-nil xs)
last-more d [] (Some x) = refl
last-more d (y ∷ ys) (Some x) = last-more y ys (Some x)

-- the first line is written
pub first-line : (o : Option (List ℕ)) → new_line [] o ≡ concat (if_any o)
first-line None = refl
first-line (Some line) = sym (shown-more [] (Some line))
