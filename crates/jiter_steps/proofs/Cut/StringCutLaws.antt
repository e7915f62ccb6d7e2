-- A string whose text is cut, with its mark.
use Rattle.jiter_steps.proofs.Words.{◌≡◌, ℕ, ◌+◌, ◌<◌, ◌≤◌, ◌==◌, Bool, List, length, take, ap, ◌∙◌, arith, list_any}
use Rattle.jiter_steps.proofs.Words.{eof_string, taken, failed, Piece, SpellsString, text_of, pieces_to, has_backslash}
use Rattle.jiter_steps.proofs.Words.{text_at, body_at, whole, kept, raw, string_at}
use Rattle.jiter_steps.proofs.Grammar.StringMarks.{mark-is}
use Rattle.jiter_steps.proofs.Cut.DocumentPrefixes.{prefix-length, prefix-get, prefix-range}
use Rattle.jiter_steps.proofs.Cut.StringCut.{string-still, kept-cut, whole-cut}
use Rattle.jiter_steps.proofs.Grammar.StringLaws.{string_at-complete, string-ordered, kept-whole}

module _ (t : List ℕ) (k : ℕ) (within : k ≤ length t) where
  -- before the cut the bytes are the same
  has_backslash-take : (i e : ℕ) → i ≤ e → e ≤ k → has_backslash (take k t) i e ≡ has_backslash t i e
  has_backslash-take i e l m = ap (list_any (λ c. c == 92)) (prefix-range t k within i e l m)

  -- a string that is cut is kept as its pieces before the cut
  pub string_at-cut : (i e : ℕ) (ps : List Piece) → SpellsString t i ps e → i < k → k < e
      → string_at kept (take k t) i ≡ taken (text_at t (pieces_to k ps) i k) k
  string_at-cut i e ps s l m =
      let r = kept-cut t k within i e ps s l m in
      let mark : (body_at (take k t) (i + 1)).owned ≡ has_backslash t i k =
      mark-is (take k t) i k (prefix-get t k within i 34 l s.opens) (omega (arith, prefix-length t k within)) r.0
      ∙ has_backslash-take i k (omega arith) (omega arith) in
      r.1 ∙ ap (λ (o : Bool). taken (record { owned = o; bytes = text_of (pieces_to k ps) }) k) mark

  -- where it is not kept, the end of input is the error
  pub string_at-cut_whole : (i e : ℕ) (ps : List Piece) → SpellsString t i ps e → i < k → k < e
      → (string_at whole (take k t) i ≡ failed eof_string k) × (string_at raw (take k t) i ≡ failed eof_string k)
  string_at-cut_whole i e ps s l m = whole-cut t k within i e ps s l m

  -- a string that ends before the cut is read as it was, kept or whole
  pub string_at-before : (i e : ℕ) (ps : List Piece) → SpellsString t i ps e → e ≤ k
      → (string_at whole (take k t) i ≡ taken (text_at t ps i e) e)
      × (string_at kept (take k t) i ≡ taken (text_at t ps i e) e)
  string_at-before i e ps s l =
      let there = string-still t k within i e ps s l in
      let mark : has_backslash (take k t) i e ≡ has_backslash t i e =
      has_backslash-take i e (omega (arith, (string-ordered (take k t) i e ps there).0)) l in
      let read : string_at whole (take k t) i ≡ taken (text_at t ps i e) e =
      string_at-complete (take k t) i e ps there
      ∙ ap (λ (o : Bool). taken (record { owned = o; bytes = text_of ps }) e) mark in
      (read, kept-whole (take k t) i e (text_at t ps i e) read)
