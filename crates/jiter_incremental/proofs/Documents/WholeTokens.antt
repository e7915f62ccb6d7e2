-- A string, a key or a literal of a document that arrives, which lies whole in a chunk.
use Rattle.jiter_incremental.proofs.Words.{Bool, Document, Follows, IsKeyAs, IsScalarWithin, IsTextWithin, List}
use Rattle.jiter_incremental.proofs.Words.{Literal, Some, Stands, Text, allows_trailing_strings, any_bytes, ap, arith}
use Rattle.jiter_incremental.proofs.Words.{content_at, done, false, get_or, length, length-append, literal_at}
use Rattle.jiter_incremental.proofs.Words.{literal_tree, refl, slice-stands, slice_get, slice_range, start_of, string}
use Rattle.jiter_incremental.proofs.Words.{subst, sym, taken, text_form, text_of, with_byte, word_at-complete}
use Rattle.jiter_incremental.proofs.Words.{word_at-sound, word_of, ℕ, ◌++◌, ◌+◌, ◌<◌, ◌∙◌, ◌∷◌, ◌≡◌, ◌≤◌}
use Rattle.jiter_steps.specs.declared.parse.Start.TheVariants as start
use Rattle.jiter_incremental.specs.declared.names.WordValue.TheVariants as name
use Rattle.jiter_incremental.proofs.Documents.Strings.{key-done, scalar-done}
use Rattle.jiter_incremental.proofs.Documents.Tokens.{held-stands, range-first, word-done}

module _ (chunk : List ℕ) (at : ℕ) (text : List ℕ) (e : ℕ) (h : IsTextWithin chunk at text e) where
  abbrev bytes : List ℕ
  bytes = slice_range chunk at e

  abbrev it : Text
  it = record { owned = h.owned; bytes = text }

  bytes-are : bytes ≡ get_or chunk at 0 ∷ slice_range chunk (at + 1) e
  bytes-are = range-first chunk at e (omega (arith, h.within.0)) h.within.1

  pub text-follows : Follows (with_byte (get_or chunk at 0)) bytes any_bytes
  text-follows u comes = (slice_range chunk (at + 1) e ++ u, ap (λ w. w ++ u) bytes-are)

  pub text-some : (t : List ℕ) → length t < length (t ++ bytes)
  text-some t = omega (arith, length-append t bytes, ap (λ w. length w) bytes-are)

  module _ (t : List ℕ) where
    abbrev all : List ℕ → List ℕ
    all u = (t ++ bytes) ++ u

    stands : (u : List ℕ) → Stands (all u) (length t) (length t + length bytes) bytes
    stands u = held-stands t bytes (t ++ bytes) (length t) refl refl u

    reads : (u : List ℕ) (partial : Bool)
        → content_at (text_form partial) (all u) (length t + 1) ≡ taken it (length (t ++ bytes))
    reads u partial =
        let place : length t + length bytes ≡ length (t ++ bytes) = omega (arith, length-append t bytes) in
        h.reads partial (all u) (length t) (stands u) ∙ ap (taken it) place

    quoted : (u : List ℕ) → slice_get (all u) (length t) ≡ Some 34
    quoted u = h.quoted (all u) (length t) (stands u)

    -- it is read as a key,
    pub text-key : (d : Document) → IsKeyAs d any_bytes (t ++ bytes) (length t) (text_of text)
    text-key d = λ p u reading comes.
        key-done p (all u) (length t) (quoted u) (length (t ++ bytes)) it (reads u false)

  -- and as a value.
  pub text-scalar : IsScalarWithin chunk at (string (text_of text)) e
  text-scalar = record {
    begins = omega (arith, h.within.0);
    within = h.within.1;
    reads = λ p t u depth few.
        scalar-done p (all t u) (length t) (quoted t u) depth (length (t ++ bytes)) it few
        (reads t u (allows_trailing_strings p.mode));
  }

-- The same of a literal: it is read as a value.
module _ (chunk : List ℕ) (at : ℕ) (l : Literal) (e : ℕ) (starts : start_of (get_or chunk at 0) ≡ start.Literal l)
    (read : literal_at chunk l at ≡ taken tt e) (some : at < e) (within : e ≤ length chunk) where
  abbrev spelled : List ℕ
  spelled = slice_range chunk at e

  word-is : spelled ≡ word_of l
  word-is = sym (slice-stands chunk at e (word_of l) (word_at-sound chunk (word_of l) at e tt read))

  pub literal-scalar : IsScalarWithin chunk at (literal_tree l) e
  literal-scalar = record {
    begins = some;
    within = within;
    reads = λ p t u depth few.
        let all = (t ++ spelled) ++ u in
        let b = length t in
        let end = b + length spelled in
        let stands = held-stands t spelled (t ++ spelled) b refl refl u in
        let word : Stands all b end (word_of l) = subst (Stands all b end) word-is stands in
        let begun = subst (Stands all b end) (range-first chunk at e some within) stands in
        let place : end ≡ length (t ++ spelled) = omega (arith, length-append t spelled) in
        word-done p all depth b (get_or chunk at 0) few begun.0 (name.Literal l) end starts tt
        (word_at-complete all (word_of l) b end word)
        (sym (slice-stands all b end (word_of l) word))
        ∙ ap (done (literal_tree l)) place;
  }
