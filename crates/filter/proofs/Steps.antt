-- The steps of a pointer, a character at a time.
use Rattle.std.proofs.Common.{◌≡◌, ◌∙◌, ◌<◌, ◌+◌, ap, refl, sym, ℕ, Bool, true, false, List, [], ◌∷◌, ◌++◌, Option}
use Rattle.std.proofs.Common.{Some, None, append_assoc, append-nil, arith, drop, get_or, length, ne_eqb, suc}
use Rattle.std.proofs.Common.{◌≢◌}
use Rattle.std.specs.Prelude.{◌==◌, ◌&&◌, ◌||◌, chars, encode_utf8, encode_utf8_all, not, option_and_then, option_map}
use Rattle.std.specs.List.{list_any}
use Rattle.std.proofs.lemmas.List.{at_drop_all, at_drop_more, length_push}
use Rattle.std.proofs.lemmas.Str.{encodes-append}
use Rattle.jiter_value.specs.Pointer.{is_slash}
use Rattle.filter.specs.Pointers.{decoded, meant, name_in, unescaped}

-- ---- slashes and tildes
pub no-slash : (xs : List ℕ) → ((i : ℕ) → i < length xs → get_or xs i 0 ≢ 47) → list_any is_slash xs ≡ false
no-slash [] h = refl
no-slash (x ∷ xs) h =
    ap (λ b. b || list_any is_slash xs) (ne_eqb x 47 (h 0 (omega arith)))
    ∙ no-slash xs (λ i less. h (suc i) (omega arith))

-- what begins with no slash is no pointer to a member
pub no-name : (pointer : List ℕ) → ((rest : List ℕ) → pointer ≢ 47 ∷ rest) → None ≡ name_in pointer
no-name [] h = refl
no-name (c ∷ cs) h =
    let other : is_slash c ≡ false = ne_eqb c 47 (λ is. h cs (ap (λ x. x ∷ cs) is)) in
    rw other refl

pub is-tilde : (c : ℕ) (is_escape : Bool) → c ≡ 126 → is_escape ≡ false → (c == 126) && not is_escape ≡ true
is-tilde c is_escape is none = ap (λ x. (x == 126) && not is_escape) is ∙ ap not none

pub no-tilde-begun : (c : ℕ) (is_escape : Bool) → is_escape ≡ true → (c == 126) && not is_escape ≡ false
no-tilde-begun c is_escape begun = by (c == 126) where
  by : (b : Bool) → b && not is_escape ≡ false
  by true = ap not begun
  by false = refl

pub no-tilde-other : (c : ℕ) (is_escape : Bool) → (c ≡ 126 → ⊥) → (c == 126) && not is_escape ≡ false
no-tilde-other c is_escape other = ap (λ b. b && not is_escape) (ne_eqb c 126 other)

-- ---- one character after the other

-- After these characters: what was read of them is in the name, and the others decide.
pub record Reads (steps yielded : List ℕ) (is_escape : Bool) (name : List ℕ) : Type 0 where
  pub out : List ℕ
  pub bytes : name ≡ encode_utf8_all out
  pub left : unescaped false (chars steps)
      ≡ option_map (λ rest. out ++ rest) (unescaped is_escape (drop (length yielded) (chars steps)))

same-map : (o : Option (List ℕ)) → o ≡ option_map (λ rest. [] ++ rest) o
same-map None = refl
same-map (Some x) = refl

pub reads-begin : (steps yielded name : List ℕ) → yielded ≡ [] → name ≡ [] → Reads steps yielded false name
reads-begin steps yielded name none empty = record {
  out = [];
  bytes = empty;
  left = same-map (unescaped false (chars steps))
      ∙ ap (λ n. option_map (λ rest. [] ++ rest) (unescaped false (drop n (chars steps)))) (sym (ap length none));
}

module _ (steps yielded : List ℕ) (is_escape : Bool) (name : List ℕ) (h : Reads steps yielded is_escape name) where
  -- the next character
  module _ (c : ℕ) (is : (length yielded < length (chars steps)) × (c ≡ get_or (chars steps) (length yielded) c)) where
    abbrev others : List ℕ
    others = drop (length yielded + 1) (chars steps)

    here : unescaped is_escape (drop (length yielded) (chars steps)) ≡ unescaped is_escape (c ∷ others)
    here =
        at_drop_more (unescaped is_escape) (chars steps) (length yielded) c is.0
        ∙ ap (λ x. unescaped is_escape (x ∷ others)) (sym is.1)

    after : (escape : Bool) → unescaped escape others ≡ unescaped escape (drop (length (yielded ++ (c ∷ []))) (chars steps))
    after escape = ap (λ n. unescaped escape (drop n (chars steps))) (sym (length_push yielded c))

    -- a tilde that escapes what follows
    pub reads-tilde : (c == 126) && not is_escape ≡ true → Reads steps (yielded ++ (c ∷ [])) true name
    reads-tilde tilde = record {
      out = h.out;
      bytes = h.bytes;
      left = h.left ∙ ap (option_map (λ rest. h.out ++ rest)) (here ∙ turn ∙ after true);
    } where
      turn : unescaped is_escape (c ∷ others) ≡ unescaped true others
      turn = rw tilde refl

    no-tilde : (c == 126) && not is_escape ≡ false → unescaped is_escape (c ∷ others)
        ≡ option_and_then (λ d. option_map (λ rest. d ∷ rest) (unescaped false others)) (meant is_escape c)
    no-tilde other = rw other refl

    -- another character
    pub reads-more : (c == 126) && not is_escape ≡ false → (d : ℕ) → meant is_escape c ≡ Some d → (name' : List ℕ)
        → name' ≡ name ++ encode_utf8 d → Reads steps (yielded ++ (c ∷ [])) false name'
    reads-more other d means name' pushed = record {
      out = h.out ++ (d ∷ []);
      bytes = pushed ∙ ap (λ b. b ++ encode_utf8 d) h.bytes ∙ sym (encodes-push h.out d);
      left = h.left ∙ ap (option_map (λ rest. h.out ++ rest))
          (here ∙ no-tilde other
          ∙ ap (option_and_then (λ d. option_map (λ rest. d ∷ rest) (unescaped false others))) means
          ∙ ap (option_map (λ rest. d ∷ rest)) (after false)) ∙ joined (unescaped false (drop (length (yielded ++ (c ∷ []))) (chars steps)));
    } where
      encodes-push : (cs : List ℕ) (d : ℕ) → encode_utf8_all (cs ++ (d ∷ [])) ≡ encode_utf8_all cs ++ encode_utf8 d
      encodes-push cs d = encodes-append cs (d ∷ []) ∙ ap (λ b. encode_utf8_all cs ++ b) (append-nil (encode_utf8 d))

      joined : (o : Option (List ℕ)) → option_map (λ rest. h.out ++ rest) (option_map (λ rest. d ∷ rest) o)
          ≡ option_map (λ rest. (h.out ++ (d ∷ [])) ++ rest) o
      joined None = refl
      joined (Some rest) = ap Some (sym (append_assoc h.out (d ∷ []) rest))

    -- a tilde before it that escapes nothing
    pub reads-none : (c == 126) && not is_escape ≡ false → meant is_escape c ≡ None → None ≡ decoded steps
    reads-none other means =
        sym (ap (option_map encode_utf8_all) (h.left ∙ ap (option_map (λ rest. h.out ++ rest))
        (here ∙ no-tilde other
        ∙ ap (option_and_then (λ d. option_map (λ rest. d ∷ rest) (unescaped false others))) means)))

  -- no character is left
  module _ (all : length yielded ≡ length (chars steps)) where
    last : unescaped is_escape (drop (length yielded) (chars steps)) ≡ unescaped is_escape []
    last = at_drop_all (unescaped is_escape) (chars steps) (length yielded) (omega (arith, all))

    pub reads-cut : is_escape ≡ true → None ≡ decoded steps
    reads-cut escape =
        sym (ap (option_map encode_utf8_all) (h.left ∙ ap (option_map (λ rest. h.out ++ rest))
        (last ∙ ap (λ e. unescaped e []) escape)))

    pub reads-all : is_escape ≡ false → Some name ≡ decoded steps
    reads-all escape =
        ap Some (h.bytes ∙ ap encode_utf8_all (sym (append-nil h.out)))
        ∙ sym (ap (option_map encode_utf8_all) (h.left ∙ ap (option_map (λ rest. h.out ++ rest))
        (last ∙ ap (λ e. unescaped e []) escape)))
