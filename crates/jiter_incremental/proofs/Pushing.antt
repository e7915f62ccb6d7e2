-- What a parser of a document that comes in chunks has received of them.
use Rattle.jiter_incremental.proofs.Words.{◌≡◌, Bool, ℕ, ◌+◌, ◌^◌, ◌<◌, ◌≤◌, List, [], ◌∷◌, ◌++◌, length, take, drop}
use Rattle.jiter_incremental.proofs.Words.{get_or, refl, sym, ap, ◌∙◌, subst, inl, arith, length-append, flat_map}
use Rattle.jiter_incremental.proofs.Words.{Result, Err, append-nil, take-append-drop, take_more, JsonError, Off}
use Rattle.jiter_incremental.proofs.Words.{past_blanks, nesting_limit, null, HasArrived, MayRefuseAt, HasReceived}
use Rattle.jiter_incremental.proofs.Words.{document, Reader, owned_tree, Parses, view, JsonValue, parses}
use Rattle.std.proofs.Common.{Bor}
use Rattle.std.proofs.lemmas.Grind.{flat_map-append}
use Rattle.jiter_scan.specs.declared.errors.JsonErrorType.TheVariants.{OutOfMemory}
use Rattle.jiter_incremental.specs.IncrementalParser.{received}
use Rattle.jiter_value.specs.declared.value.JsonValue.{Null}
use Rattle.jiter_value.proofs.ParsedDocuments.{parses-same}
use Rattle.jiter_value.proofs.Views.{view_null}
use Rattle.jiter_incremental.proofs.Documents.Blanks.{refuse-on}

-- nothing yet
pub received-none : (r : Reader) → HasArrived (document r null) [] → (r.base ≡ 0) × (r.at ≡ 0) → r.depth ≡ 0
    → HasReceived (received r Null) []
received-none r h start closed = record {
  arrived = subst (λ v. HasArrived (document r v) []) (sym view_null) h;
  between = start.1;
  low = omega (arith, closed);
  settings = refl;
  position = h.position;
  room = omega (arith, start.0, start.1);
}

-- The bytes of a chunk that were taken are counted.
pub received-so : (j k : Reader) (w : JsonValue) (t : List ℕ) → HasArrived (document j (view w)) t
    → j.depth ≤ nesting_limit + 1 → j.base + j.at < 2 ^ 64 → k ≡ record j { base = j.base + j.at; at = 0 }
    → HasReceived (received k w) t
received-so j k w t h low room is =
    subst (λ (r : Reader). HasReceived (received r w) t) (sym is) (record {
      arrived = subst (λ n. HasArrived (record (document j (view w)) { position = n }) t) (sym none) h;
      between = refl;
      low = low;
      settings = refl;
      position = none ∙ h.position;
      room = omega (arith, room);
    }) where
      none : j.base + j.at + 0 ≡ j.base + j.at
      none = omega arith

-- Where an allocation may fail, its want is answered.
pub refused-promised : (names : Bool) (t : List ℕ) (i : ℕ) → MayRefuseAt t i
    → Parses owned_tree (past_blanks t 0 < length t) names Off t (Err (record { error_type = OutOfMemory; index = i }))
refused-promised names t i h =
    parses names t Off owned_tree (past_blanks t 0 < length t) (Err (record { error_type = OutOfMemory; index = i }))
    (inl refl) (λ memory. (omega (arith, h.begun, h.before), h.begun, omega (arith, h.before)))

-- What is promised with no a failed allocation is promised.
pub never-refused : (names : Bool) (t : List ℕ) (r : Result JsonValue JsonError)
    → Parses owned_tree ⊥ names Off t r → Parses owned_tree (past_blanks t 0 < length t) names Off t r
never-refused names t r h =
    parses-same owned_tree owned_tree (λ v. refl) ⊥ (past_blanks t 0 < length t) (λ no. absurd no) names Off t r h

-- the bytes of borrowed chunks, one after the other
abbrev pub bytes_of : List (Bor (List ℕ)) → List ℕ
bytes_of chunks = flat_map {X = Bor (List ℕ)} {A = ℕ} (λ chunk. chunk.now) chunks

module _ (chunks : List (Bor (List ℕ))) (i : ℕ) (other : Bor (List ℕ)) (within : i < length chunks) where
  abbrev before : List ℕ
  before = bytes_of (take i chunks)

  abbrev chunk : List ℕ
  chunk = (get_or chunks i other).now

  -- one chunk more
  pub chunks-more : bytes_of (take (i + 1) chunks) ≡ before ++ chunk
  chunks-more =
      ap bytes_of (take_more chunks i other within)
      ∙ flat_map-append (λ (p : Bor (List ℕ)). p.now) (take i chunks) (get_or chunks i other ∷ [])
      ∙ ap (λ w. before ++ w) (append-nil chunk)

  -- and those after it
  chunks-parts : bytes_of chunks ≡ (before ++ chunk) ++ bytes_of (drop (i + 1) chunks)
  chunks-parts =
      ap bytes_of (sym (take-append-drop (i + 1) chunks))
      ∙ flat_map-append (λ (p : Bor (List ℕ)). p.now) (take (i + 1) chunks) (drop (i + 1) chunks)
      ∙ ap (λ w. w ++ bytes_of (drop (i + 1) chunks)) chunks-more

  chunks-long : length before + length chunk ≤ length (bytes_of chunks)
  chunks-long =
      let rest = bytes_of (drop (i + 1) chunks) in
      omega (arith, ap length chunks-parts, length-append (before ++ chunk) rest, length-append before chunk)

  -- Where this one is refused, memory may be: its bytes and those before it are not too many.
  pub chunks-refused : (from at : ℕ) → from ≡ length before → length (bytes_of chunks) < 2 ^ 64
      → (from + length chunk < 2 ^ 64 → MayRefuseAt (before ++ chunk) at) → MayRefuseAt (bytes_of chunks) at
  chunks-refused from at place few h =
      subst (λ t. MayRefuseAt t at) (sym chunks-parts)
      (refuse-on (before ++ chunk) (bytes_of (drop (i + 1) chunks)) at (h (omega (arith, chunks-long))))
