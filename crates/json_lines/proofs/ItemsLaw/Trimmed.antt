-- Text between whitespace.
use Rattle.std.proofs.Common.{◌≡◌, ℕ, ◌-◌, false, List, [], ◌∷◌, ◌++◌, append-nil, drop, length, length-append}
use Rattle.std.proofs.Common.{refl, reverse, sym, ap, ap₂, ◌∙◌, subst, arith, take}
use Rattle.std.specs.List.{prefix_len, suffix_len}
use Rattle.std.proofs.lemmas.List.{length-drop, length-reverse, reverse-append, reverse-reverse, take-append-drop}
use Rattle.std.proofs.Math.Seq.{take-append_seam, drop-append_seam}
use Rattle.jiter_scan.specs.Scan.{Pass}
use Rattle.jiter_scan.proofs.Chunks.{prefix_len-pass}
use Rattle.json_lines.specs.Items.{after_blanks, blanks, is_white, trim_end}

pub white-append : (u v : List ℕ) → Pass is_white u → Pass is_white v → Pass is_white (u ++ v)
white-append [] v h g = g
white-append (b ∷ u) v h g = (h.0, white-append u v h.1 g)

white-reverse : (w : List ℕ) → Pass is_white w → Pass is_white (reverse w)
white-reverse [] h = tt
white-reverse (b ∷ w) h =
    subst (Pass is_white) (sym (reverse-append (b ∷ []) w)) (white-append (reverse w) (b ∷ []) (white-reverse w h.1) (h.0, tt))

-- whitespace, and a byte that is none
pub blanks-before : (ws : List ℕ) (c : ℕ) (w : List ℕ) → Pass is_white ws → is_white c ≡ false → blanks (ws ++ (c ∷ w)) ≡ length ws
blanks-before [] c w h other = rw other refl
blanks-before (b ∷ ws) c w h other = rw h.0 (omega (arith, blanks-before ws c w h.1 other))

pub blanks-all : (ws : List ℕ) → Pass is_white ws → blanks ws ≡ length ws
blanks-all [] h = refl
blanks-all (b ∷ ws) h = rw h.0 (omega (arith, blanks-all ws h.1))

pub after-before : (ws : List ℕ) (c : ℕ) (w : List ℕ) → Pass is_white ws → is_white c ≡ false
    → after_blanks (ws ++ (c ∷ w)) ≡ c ∷ w
after-before ws c w h other =
    ap (λ n. drop n (ws ++ (c ∷ w))) (blanks-before ws c w h other) ∙ drop-append_seam ws (c ∷ w)

pub after-all : (ws : List ℕ) → Pass is_white ws → after_blanks ws ≡ []
after-all ws h =
    ap (λ n. drop n ws) (blanks-all ws h) ∙ ap (drop (length ws)) (sym (append-nil ws)) ∙ drop-append_seam ws []

-- a text that ends with a byte that is no whitespace, and whitespace after it
pub trim-after : (front : List ℕ) (z : ℕ) (vs : List ℕ) → is_white z ≡ false → Pass is_white vs
    → trim_end ((front ++ (z ∷ [])) ++ vs) ≡ front ++ (z ∷ [])
trim-after front z vs other h =
    let src = front ++ (z ∷ []) in
    let back : reverse (src ++ vs) ≡ reverse vs ++ (z ∷ reverse front) =
    reverse-append src vs ∙ ap (λ l. reverse vs ++ l) (reverse-append front (z ∷ [])) in
    let count : suffix_len is_white (src ++ vs) ≡ length vs =
    ap (prefix_len is_white) back ∙ blanks-before (reverse vs) z (reverse front) (white-reverse vs h) other ∙ length-reverse vs in
    let left : length (src ++ vs) - suffix_len is_white (src ++ vs) ≡ length src = omega (arith, count, length-append src vs) in
    ap (λ n. take n (src ++ vs)) left ∙ take-append_seam src vs

-- ---- any text: the whitespace that it begins with, and ends with
pub white-front : (w : List ℕ) → (w ≡ take (blanks w) w ++ after_blanks w) × Pass is_white (take (blanks w) w)
white-front w = (sym (take-append-drop (blanks w) w), prefix_len-pass is_white (blanks w) w (omega arith))

pub white-back : (w : List ℕ) → (vs : List ℕ) × (w ≡ trim_end w ++ vs) × Pass is_white vs
white-back w =
    let y = reverse w in
    let n = suffix_len is_white w in
    let kept = reverse (drop n y) in
    let vs = reverse (take n y) in
    let is : w ≡ kept ++ vs =
    sym (reverse-reverse w) ∙ ap reverse (sym (take-append-drop n y)) ∙ reverse-append (take n y) (drop n y) in
    let long : length w - n ≡ length kept =
    omega (arith, length-reverse (drop n y), length-drop n y, length-reverse w) in
    let same : trim_end w ≡ kept = ap₂ take long is ∙ take-append_seam kept vs in
    (vs, is ∙ ap (λ x. x ++ vs) (sym same), white-reverse (take n y) (prefix_len-pass is_white n y (omega arith)))

pub all-white : (w : List ℕ) → after_blanks w ≡ [] → Pass is_white w
all-white w none =
    let x = white-front w in
    subst (Pass is_white) (sym (x.0 ∙ ap (λ y. take (blanks w) w ++ y) none ∙ append-nil (take (blanks w) w))) x.1
