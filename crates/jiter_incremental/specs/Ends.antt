-- What the bytes of a document answer that have come so far, if the input ends after them.
use Rattle.std.specs.Prelude.{◌≡◌, ℕ, ◌+◌, ◌&&◌, ◌||◌, Bool, true, false, not, if◌then◌else◌, List, length, Option}
use Rattle.std.specs.Prelude.{Some, None, is_some}
use Rattle.jiter_scan.specs.Kind.{Kind, eof_string, eof_value, fault_kind}
use Rattle.jiter_scan.specs.PartialNumber.{is_whole}
use Rattle.jiter_scan.specs.PartialMode.{allows_trailing_strings}
use Rattle.jiter_scan.specs.declared.errors.Fault.{Fault}
use Rattle.jiter_steps.specs.PartialString.{HasTaken, Wherever, text_or}
use Rattle.jiter_steps.specs.Read.{done, fault}
use Rattle.jiter_steps.specs.StringReading.{content_at, kept}
use Rattle.jiter_steps.specs.Tree.{Tree}
use Rattle.jiter_steps.specs.declared.parse.ContainerKind.{ContainerKind}
use Rattle.jiter_steps.specs.declared.parse.ContainerKind.TheVariants as shape
use Rattle.jiter_incremental.specs.Arrived.{Arrived, at_value, between_parts, end_of, owned}
use Rattle.jiter_incremental.specs.Between.{after_value}
use Rattle.jiter_incremental.specs.Document.{Document, Opened, between_tokens, in_key, in_scalar, is_shown, token_tree}
use Rattle.jiter_incremental.specs.Slot.{OpenFrame, filled}
use Rattle.jiter_value.specs.Settings.{answer_as}
use Rattle.jiter_value.specs.Stacks.{PartTree, built}
use Rattle.jiter_incremental.specs.declared.reader.Token.{Token}
use Rattle.jiter_incremental.specs.declared.reader.Token.TheVariants as token
use Rattle.jiter_incremental.specs.declared.reader.Awaits.TheVariants as awaits
use Rattle.jiter_value.specs.declared.parse.settings.Settings.{Settings}

-- What is left open with it: an unfinished scalar or key that is no value is dropped.
abbrev pub so_far : Document → Opened → Arrived
so_far d (between_tokens s) = s
so_far d (in_scalar fs b) = if is_shown d then after_value (token_tree d d.token) fs else at_value awaits.Value fs
so_far d (in_key fs ms b) = between_parts awaits.Next shape.Object ms fs

-- the string that is unfinished is kept, and is no text
abbrev pub broken_as : Document → Token → Bool
broken_as d token.Text = allows_trailing_strings d.settings.mode && d.string.text.broken
broken_as d other = false

abbrev pub is_broken : Document → Bool
is_broken d = broken_as d d.token

-- The error where the input ends and nothing is forgiven, unless the value is whole there
abbrev pub kind_as : Document → Token → Opened → Option Kind
kind_as d token.Word o = Some eof_value
kind_as d token.Text o = Some eof_string
kind_as d token.Key o = Some eof_string
kind_as d token.Number (in_scalar fs b) =
    if is_whole d.number.stage then end_of (after_value (token_tree d token.Number) fs) else Some eof_value
kind_as d token.Number other = None
kind_as d token.Nothing (between_tokens s) = end_of s
kind_as d token.Nothing other = None

abbrev pub kind_at_end : Document → Opened → Option Kind
kind_at_end d o = kind_as d d.token o

-- That error, where the bytes end
abbrev pub IsEndFault : Document → Option Kind → Option Fault → Type 0
IsEndFault d k None = k ≡ None
IsEndFault d k (Some f) = (k ≡ Some (fault_kind f.kind)) × (f.index ≡ d.position)

-- The innermost of these many open containers, which are inside each other in the value so far, has this kind.
pub record IsInside (depth : ℕ) (v : Tree) (h : ContainerKind) : Type 0 where
  pub parts : List (PartTree h)
  pub outer : List OpenFrame
  pub deep : depth ≡ length outer + 1
  pub is : v ≡ filled outer (built h parts)

-- Where the input ends in the string that is kept, it is its characters so far, or a byte after them is wrong.
abbrev pub KeepsText : Document → Type 0
KeepsText d =
    d.token ≡ token.Text → allows_trailing_strings d.settings.mode ≡ true → (w : List ℕ) (h : HasTaken d.string w)
    → Wherever w (λ t i j. length t ≡ j
    → content_at kept t i
    ≡ text_or (not d.string.text.broken) i (h.escaped || is_some d.string.escape) d.string.text.text j)

-- The text answers this error, or, where there is none, the value.
abbrev pub AnswersSo : Settings → List ℕ → Option Fault → Option Tree → Type 0
AnswersSo p t (Some f) v = (stop : ℕ) × (answer_as owned p t ≡ fault (fault_kind f.kind) f.index stop)
AnswersSo p t None v = (w : Tree) × (v ≡ Some w) × ((e : ℕ) × (answer_as owned p t ≡ done w e))
