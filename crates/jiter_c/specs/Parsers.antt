-- What C is told of a parser that takes a document in chunks.
use Rattle.std.specs.Prelude.{◌≡◌, ◌+◌, ◌-◌, ◌^◌, ◌<◌, ◌≤◌, ◌++◌, ℕ, Bool, true, false, not, List, [], length, take}
use Rattle.std.specs.Prelude.{Option, Some, None, Result, Ok, Err, Vec}
use Rattle.std.specs.declared.alloc.Global.{Global}
use Rattle.jiter.specs.Cause.{json_error}
use Rattle.jiter_incremental.specs.IncrementalParser.{HasReceived, Received}
use Rattle.jiter_incremental.specs.Document.{MayRefuseAt}
use Rattle.jiter_print.specs.Print.{print_of}
use Rattle.jiter_scan.specs.Kind.{out_of_memory}
use Rattle.jiter_scan.specs.declared.partial_mode.PartialMode.{PartialMode}
use Rattle.jiter_scan.specs.declared.partial_mode.PartialMode.TheVariants.{Off}
use Rattle.jiter_steps.specs.Answer.{answer_in}
use Rattle.jiter_steps.specs.Read.{Reading, done, fault}
use Rattle.jiter_steps.specs.Tree.{Tree}
use Rattle.jiter_value.specs.Owned.{owned_tree}
use Rattle.jiter_value.specs.Parses.{reading_as}
use Rattle.jiter_c.specs.Faults.{fault_of}
use Rattle.jiter_c.specs.Holding.{HoldsDocument, HoldsParser, MatchParser}
use Rattle.jiter_c.specs.Printing.{WritesText, error_if}
use Rattle.jiter_c.specs.declared.faults.JiterFault.{JiterFault}
use Rattle.jiter_c.specs.declared.handles.Contents.{Contents}

-- the reading of the bytes so far in the parser's mode, and the one with partial reading off
abbrev pub reading_so_far : Received → List ℕ → Reading Tree
reading_so_far p t = reading_as owned_tree (answer_in p.settings.allow_inf_nan p.settings.mode t)

abbrev pub reading_whole : Received → List ℕ → Reading Tree
reading_whole p t = reading_as owned_tree (answer_in p.settings.allow_inf_nan Off t)

-- A parser begins, if the mode is one.
abbrev pub Begins : Option PartialMode → Bool → Contents → Contents → Bool → Type 0
Begins None names old new begun = (begun ≡ false) × (new ≡ old)
Begins (Some mode) names old new begun =
    (begun ≡ true)
    × HoldsParser new (λ p. HasReceived p [] × (p.settings.allow_inf_nan ≡ names) × (p.settings.mode ≡ mode))

-- What a push that failed comes to: the bytes before the new position were taken. Memory ran out where that may be, or
-- the position would be too large, and then nothing changed.
pub record PushFails (p q : Received) (chunk : List ℕ) : Type 0 where
  pub taken : (t : List ℕ) → HasReceived p t → HasReceived q (t ++ take (q.position - p.position) chunk)
  pub forward : p.position ≤ q.position
  pub within : q.position ≤ p.position + length chunk
  pub memory : (t : List ℕ) → HasReceived p t → p.position + length chunk < 2 ^ 64
      → MayRefuseAt (t ++ chunk) q.position
  pub unchanged : 2 ^ 64 ≤ p.position + length chunk → q ≡ p

-- What a push of this chunk comes to.
abbrev pub Pushed : Received → Received → List ℕ → Bool → Type 0
Pushed p q chunk true =
    (q.settings ≡ p.settings) × ((t : List ℕ) → HasReceived p t → HasReceived q (t ++ chunk))
    × (q.position ≡ p.position + length chunk) × (p.position + length chunk < 2 ^ 64)
Pushed p q chunk false = (q.settings ≡ p.settings) × PushFails p q chunk

-- The same of what a handle holds; if that is no parser, the push fails and nothing changes.
abbrev pub Pushes : Contents → Contents → List ℕ → Bool → Type 0
Pushes old new chunk pushed =
    MatchParser old ((pushed ≡ false) × (new ≡ old)) (λ p. HoldsParser new (λ q. Pushed p q chunk pushed))

-- The text of the value that was read, or the error; or memory for the text ran out, which has this index.
abbrev pub Prints : ℕ → Reading Tree → Result (Vec ℕ Global) JiterFault → Type 0
Prints i (done v e) (Ok text) = text.items ≡ print_of v
Prints i (done v e) (Err f) = f ≡ fault_of (json_error out_of_memory) i
Prints i (fault k j stop) (Ok text) = ⊥
Prints i (fault k j stop) (Err f) = f ≡ fault_of (json_error k) j

-- The same, as a call writes it.
abbrev pub ReportsPrint : ℕ → Reading Tree → Bool → List ℕ → List ℕ → ℕ → ℕ → JiterFault → JiterFault → Type 0
ReportsPrint i reading given out after whole count before later =
    (text : Result (Vec ℕ Global) JiterFault) × Prints i reading text
    × WritesText text given out after whole count before later

-- The error of a reading, if it has one.
abbrev pub Errs : Reading Tree → Option JiterFault → Type 0
Errs (done v e) error = error ≡ None
Errs (fault k i stop) error = error ≡ Some (fault_of (json_error k) i)

abbrev pub ReportsError : Reading Tree → Bool → JiterFault → JiterFault → Type 0
ReportsError reading failed before later = Errs reading (error_if failed later) × (failed ≡ false → later ≡ before)

-- What the end of a document comes to: its value, or the error; the parser is gone.
abbrev pub Finishes : Reading Tree → Contents → Option JiterFault → Type 0
Finishes (done v e) new error = HoldsDocument new (λ w. w ≡ v) × (error ≡ None)
Finishes (fault k i stop) new error = (new ≡ Contents.Nothing) × (error ≡ Some (fault_of (json_error k) i))

abbrev pub ReportsFinish : Reading Tree → Contents → Bool → JiterFault → JiterFault → Type 0
ReportsFinish reading new given before later =
    Finishes reading new (error_if (not given) later) × (given ≡ true → later ≡ before)
