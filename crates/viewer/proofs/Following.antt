-- What a run has shown so far, and what it has shown after a piece more.
use Rattle.std.proofs.Common.{◌≡◌, ◌∙◌, ap, ap₂, refl, sym, subst, ℕ, ◌+◌, ◌≤◌, List, [], ◌∷◌, ◌++◌, Option, Some, None}
use Rattle.std.proofs.Common.{append-nil, arith, IfSome, inl, inr, length, take, ⊎_elim}
use Rattle.std.specs.Prelude.{bytes_eq, IfOk, Result, Ok, Err, OnErr, OnOk}
use Rattle.std.proofs.lemmas.List.{length-append, take-append-le}
use Rattle.std.proofs.lemmas.List.Folds.{concat-append}
use Rattle.std.proofs.lemmas.Option.{IfSome_then}
use Rattle.std.proofs.Math.Seq.{take-append_seam, take-append-add, take-length}
use Rattle.std.proofs.KnownBytes.{Appends-nil, Appends-trans, Consumes-all, Consumes-nil, Consumes-kept, Consumes-trans}
use Rattle.std.specs.List.{concat, dedup}
use Rattle.std.specs.Io.{StartsWith}
use Rattle.std.specs.Io.KnownBytes.{Appends, Consumes, IsAtEnd, Keeps}
use Rattle.jiter_print.specs.Written.{AppendsPrefix}
use Rattle.json_screen.specs.Arrived.{HasArrived}
use Rattle.viewer.specs.Shown.{BreaksOff, Changes, if_any, last_line, line_at, lines_of, Look, look, look_at, new_line, sent}
use Rattle.viewer.specs.Shown.{shown, Shows, ShowsPrefix, ShowsRead, ShowsRows, WritesChange}
use Rattle.viewer.specs.declared.view.Output.{Output}
use Rattle.viewer.specs.declared.view.Output.TheVariants.{Value, Lines, Rows}
use Rattle.json_screen.specs.Terminal.{IsPlain, Redraws}
use Rattle.json_screen.specs.declared.input.Input.{Input}
use Rattle.json_screen.specs.declared.input.Options.{Options}
use Rattle.json_screen.specs.declared.screen.Shown.{Shown}
use Rattle.json_screen.proofs.Drawing.{nothing-drawn, redraws-then}
use Rattle.viewer.proofs.Lines.{last_of, last-more, lines-more, shown-more}
use Rattle.json_screen.proofs.Plain.{below_or_not, plain-rows}

-- What was shown of some pieces, and what was written for that. In rows: the screen ends with what was shown.
abbrev pub State : Output → Options → List (List ℕ) → Look → List ℕ → Type 0
State Value options pieces last bytes = bytes ≡ []
State Lines options pieces last bytes = (last.0 ≡ last_of [] (lines_of options pieces)) × (bytes ≡ shown options pieces)
State (Rows width) options pieces last bytes =
    (IsPlain last.0 × Redraws [] (sent last) bytes)
    × ((writes : List (List ℕ)) × ShowsRows options width pieces writes × (bytes ≡ concat writes))

shows-is : (output : Output) (options : Options) (pieces : List (List ℕ)) (last : Look) (bytes : List ℕ)
    → State output options pieces last bytes → Shows output options pieces bytes
shows-is Value options pieces last bytes s = s
shows-is Lines options pieces last bytes s = s.1
shows-is (Rows width) options pieces last bytes s = s.1

begun : (output : Output) (options : Options) (last : Look) → last.0 ≡ [] → State output options [] last []
begun Value options last none = refl
begun Lines options last none = (none, refl)
begun (Rows width) options last none = (
  (subst IsPlain (sym none) tt, nothing-drawn last.0 last.1 none),
  ([], record { count = refl; rows = λ n some few. absurd (omega (arith, some, few)) }, refl),
)

one-more : (pieces : List (List ℕ)) (piece : List ℕ) → concat (pieces ++ piece ∷ []) ≡ concat pieces ++ piece
one-more pieces piece = concat-append pieces (piece ∷ []) ∙ ap (λ l. concat pieces ++ l) (append-nil piece)

-- what one read more shows
pub state-then : (output : Output) (options : Options) (pieces : List (List ℕ)) (last : Look) (bytes piece : List ℕ) (new : Look)
    (more : List ℕ) → State output options pieces last bytes → Changes output options (concat pieces ++ piece) last new more
    → State output options (pieces ++ piece ∷ []) new (bytes ++ more)
state-then Value options pieces last bytes piece new more s c = ap₂ (λ a b. a ++ b) s c
state-then Lines options pieces last bytes piece new more s c =
    let line = line_at options (concat pieces ++ piece) in
    let all : lines_of options (pieces ++ piece ∷ []) ≡ lines_of options pieces ++ if_any line = lines-more options pieces piece in (
      c.0 ∙ ap (λ l. last_line l line) s.0 ∙ sym (ap (last_of []) all ∙ last-more [] (lines_of options pieces) line),
      ap₂ (λ a b. a ++ b) s.1 (c.1 ∙ ap (λ l. new_line l line) s.0)
          ∙ sym (ap (λ l. concat (dedup bytes_eq l)) all ∙ shown-more (lines_of options pieces) line),
    )
state-then (Rows width) options pieces last bytes piece new more s c =
    let writes = s.1.0 in
    let before = s.1.1 in
    let joined : concat (writes ++ more ∷ []) ≡ bytes ++ more = one-more writes more ∙ ap (λ l. l ++ more) (sym s.1.2) in
    let drawn : Redraws [] (sent new) (bytes ++ more) = redraws-then [] (sent last) (sent new) bytes more s.0.1 (c.1 s.0.0) in (
      (subst IsPlain (sym (ap (λ l. l.0) c.0)) (plain-rows options width (concat pieces ++ piece)), drawn),
      (
        writes ++ more ∷ [],
        record {
          count = length-append writes (more ∷ []) ∙ ap (λ n. n + 1) before.count ∙ sym (length-append pieces (piece ∷ []));
          rows = λ n some few. rows-then n some few before joined drawn;
        },
        sym joined,
      ),
    ) where
      rows-then : (n : ℕ) → 1 ≤ n → n ≤ length (pieces ++ piece ∷ []) → ShowsRows options width pieces s.1.0
          → concat (s.1.0 ++ more ∷ []) ≡ bytes ++ more → Redraws [] (sent new) (bytes ++ more)
          → Redraws [] (sent (look_at options width (concat (take n (pieces ++ piece ∷ [])))))
          (concat (take n (s.1.0 ++ more ∷ [])))
      rows-then n some few before joined drawn =
          ⊎_elim
          (λ earlier.
          rw (take-append-le n pieces (piece ∷ []) (omega (arith, earlier)))
          (rw (take-append-le n s.1.0 (more ∷ []) (omega (arith, earlier, before.count)))
          (before.rows n some (omega (arith, earlier)))))
          (λ last.
          let all : n ≡ length (pieces ++ piece ∷ []) = omega (arith, last, few, length-append pieces (piece ∷ [])) in
          let same : n ≡ length (s.1.0 ++ more ∷ []) =
          omega (arith, last, few, before.count, length-append pieces (piece ∷ []), length-append s.1.0 (more ∷ [])) in
          let whole : take n (pieces ++ piece ∷ []) ≡ pieces ++ piece ∷ [] =
          ap (λ m. take m (pieces ++ piece ∷ [])) all ∙ take-length (pieces ++ piece ∷ []) in
          let written : take n (s.1.0 ++ more ∷ []) ≡ s.1.0 ++ more ∷ [] =
          ap (λ m. take m (s.1.0 ++ more ∷ [])) same ∙ take-length (s.1.0 ++ more ∷ []) in
          subst (λ x. Redraws [] x (concat (take n (s.1.0 ++ more ∷ []))))
          (ap sent (c.0 ∙ ap (look_at options width) (sym (ap concat whole ∙ one-more pieces piece))))
          (subst (Redraws [] (sent new)) (sym (ap concat written ∙ joined)) drawn))
          (below_or_not n (length pieces + 1))

-- What was read has arrived in some pieces, and they are shown.
pub record Follows (output : Output) (options : Options) (from from' out out' : Option (List ℕ)) (input : Input) (last : Look)
    : Type 0 where
  pub pieces : List (List ℕ)
  pub bytes : List ℕ
  pub arrived : HasArrived options input (concat pieces)
  pub taken : Consumes from from' (concat pieces)
  pub state : State output options pieces last bytes
  pub shown-is : Appends out out' bytes

-- nothing was read yet
pub begins : (output : Output) (options : Options) (from out : Option (List ℕ)) (input : Input) → HasArrived options input []
    → (last : Shown) → last.text.items ≡ [] → Follows output options from from out out input (look last)
begins output options from out input h last none = record {
  pieces = [];
  bytes = [];
  arrived = h;
  taken = Consumes-nil from;
  state = begun output options (look last) none;
  shown-is = Appends-nil out;
}

-- what holds anyway holds of an error
pub if-err : {T E P : Type 0} (r : Result T E) → P → OnErr r P
if-err (Ok x) p = tt
if-err (Err e) p = p

-- what a reader gave is a prefix of what it had
prefix-of : (a b : Option (List ℕ)) (t : List ℕ) → Consumes a b t → IfSome a (λ u. StartsWith u t)
prefix-of None b t c = tt
prefix-of (Some u) None t c = absurd c
prefix-of (Some u) (Some v) t c = ap (take (length t)) c ∙ take-append_seam t v

-- what was appended stays
appends-kept : (a b c : Option (List ℕ)) (t : List ℕ) → Appends a b t → Keeps b c → Appends a c t
appends-kept None b c t h k = tt
appends-kept (Some x) None c t h k = absurd h
appends-kept (Some x) (Some y) None t h k = absurd k
appends-kept (Some x) (Some y) (Some z) t h k = k ∙ h

module _ (output : Output) (options : Options) (from out : Option (List ℕ)) where
  -- a prefix of what pieces that were read show
  stopped-in : (from' out' : Option (List ℕ)) (pieces : List (List ℕ)) (bytes : List ℕ) → Consumes from from' (concat pieces)
      → Shows output options pieces bytes → AppendsPrefix out out' bytes → IfSome from (λ t. ShowsPrefix output options t out out')
  stopped-in from' out' pieces bytes taken shows prefix =
      IfSome_then from (prefix-of from from' (concat pieces) taken) (λ t starts. (pieces, starts, (bytes, shows, prefix)))

  module _ (from' out' : Option (List ℕ)) (input : Input) (last : Look)
      (h : Follows output options from from' out out' input last) where
    shows : Shows output options h.pieces h.bytes
    shows = shows-is output options h.pieces last h.bytes h.state

    -- nothing was read
    pub stays : (from'' : Option (List ℕ)) → Keeps from' from'' → Follows output options from from'' out out' input last
    stays from'' kept = record {
      pieces = h.pieces;
      bytes = h.bytes;
      arrived = h.arrived;
      taken = Consumes-kept from from' from'' (concat h.pieces) h.taken kept;
      state = h.state;
      shown-is = h.shown-is;
    }

    -- all was read
    module _ (from'' : Option (List ℕ)) (none : Consumes from' from'' []) (end : IsAtEnd from'') where
      all-read : IfSome from (λ t. concat h.pieces ≡ t)
      all-read =
          Consumes-all from from'' (concat h.pieces ++ []) [] (concat h.pieces)
          (Consumes-trans from from' from'' (concat h.pieces) [] h.taken none) end (sym (append-nil (concat h.pieces)))

      pub all-arrived : IfSome from (λ t. HasArrived options input t)
      all-arrived = IfSome_then from all-read (λ t is. subst (HasArrived options input) is h.arrived)

      pub all-shown : IfSome from (λ t. ShowsRead output options t out out')
      all-shown = IfSome_then from all-read (λ t is. (h.pieces, is, (h.bytes, shows, h.shown-is)))

    -- no more is read
    pub stopped : (out'' : Option (List ℕ)) → Keeps out' out'' → IfSome from (λ t. ShowsPrefix output options t out out'')
    stopped out'' kept =
        let whole = appends-kept out out' out'' h.bytes h.shown-is kept in
        stopped-in from' out'' h.pieces h.bytes h.taken shows
        (length h.bytes, subst (Appends out out'') (sym (take-length h.bytes)) whole)

    module _ (from'' : Option (List ℕ)) (piece : List ℕ) (read : Consumes from' from'' piece) where
      abbrev pieces : List (List ℕ)
      pieces = h.pieces ++ piece ∷ []

      joined : concat h.pieces ++ piece ≡ concat pieces
      joined = sym (one-more h.pieces piece)

      taken-then : Consumes from from'' (concat pieces)
      taken-then =
          subst (Consumes from from'') joined
          (Consumes-trans from from' from'' (concat h.pieces) piece h.taken read)

      -- what is then is shown
      pub goes-on : (input' : Input) → HasArrived options input' (concat h.pieces ++ piece)
          → (out'' : Option (List ℕ)) (new : Look) → WritesChange output options (concat h.pieces ++ piece) last new out' out''
          → Follows output options from from'' out out'' input' new
      goes-on input' more-arrived out'' new wrote = record {
        pieces = pieces;
        bytes = h.bytes ++ wrote.0;
        arrived = subst (HasArrived options input') joined more-arrived;
        taken = taken-then;
        state = state-then output options h.pieces last h.bytes piece new wrote.0 h.state wrote.1;
        shown-is = Appends-trans out out' out'' _ _ h.shown-is wrote.2;
      }

      -- a prefix of it is
      pub breaks-off : (out'' : Option (List ℕ)) → BreaksOff output options (concat h.pieces ++ piece) last out' out''
          → IfSome from (λ t. ShowsPrefix output options t out out'')
      breaks-off out'' (inl kept) = stopped out'' kept
      breaks-off out'' (inr (new, (more, changes, prefix))) =
          let state = state-then output options h.pieces last h.bytes piece new more h.state changes in
          stopped-in from'' out'' pieces (h.bytes ++ more) taken-then
          (shows-is output options pieces new (h.bytes ++ more) state) (
            length h.bytes + prefix.0,
            subst (Appends out out'') (sym (take-append-add h.bytes more prefix.0))
                (Appends-trans out out' out'' _ _ h.shown-is prefix.1),
          )

-- A line that was written, or a prefix of it.
pub line-written : {E : Type 0} (r : Result Shown E) (options : Options) (t : List ℕ) (last : Shown) (out out' : Option (List ℕ))
    → IfOk r (λ x. x.text.items ≡ last_line last.text.items (line_at options t))
    → OnOk r (Appends out out' (new_line last.text.items (line_at options t)))
    → IfOk r (λ x. WritesChange Lines options t (look last) (look x) out out')
line-written (Ok x) options t last out out' is wrote = (new_line last.text.items (line_at options t), (is, refl), wrote)
line-written (Err e) options t last out out' is wrote = tt

pub line-broken : {E : Type 0} (r : Result Shown E) (options : Options) (t : List ℕ) (last : Shown) (out out' : Option (List ℕ))
    → OnErr r (AppendsPrefix out out' (new_line last.text.items (line_at options t)))
    → OnErr r (BreaksOff Lines options t (look last) out out')
line-broken (Ok x) options t last out out' prefix = tt
line-broken (Err e) options t last out out' prefix =
    inr ((last_line last.text.items (line_at options t), 0), (new_line last.text.items (line_at options t), (refl, refl), prefix))
