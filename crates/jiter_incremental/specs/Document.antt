-- A document that comes in chunks: what its bytes so far leave open, and what they answer whatever comes after them.
use Rattle.std.specs.Prelude.{◌≡◌, ◌⊎◌, ℕ, ◌+◌, ◌-◌, ◌≤◌, ◌<◌, ◌&&◌, Bool, true, false, not, List, [], ◌∷◌, ◌++◌, drop, length}
use Rattle.std.specs.Prelude.{slice_get, slice_index, slice_range, string_bytes, Option, Some, None}
use Rattle.jiter_scan.specs.Ascii as ascii
use Rattle.jiter_scan.specs.Kind.{Kind, expected_value, fault_kind}
use Rattle.jiter_scan.specs.Number.{Number, number_value}
use Rattle.jiter_scan.specs.NumberReading.{number_span}
use Rattle.jiter_scan.specs.NumberWithin.{EndsWithin}
use Rattle.jiter_scan.specs.PartialNumber.{HoldsNumber, begins_decimal, is_whole}
use Rattle.jiter_scan.specs.PartialWord.{word_from}
use Rattle.jiter_scan.specs.PartialMode.{allows_trailing_strings, is_active}
use Rattle.jiter_scan.specs.Scanned.{failed}
use Rattle.jiter_scan.specs.Stands.{Stands}
use Rattle.jiter_scan.specs.declared.errors.Fault.{Fault}
use Rattle.jiter_scan.specs.declared.errors.FaultKind.{FaultKind}
use Rattle.jiter_scan.specs.declared.partial_mode.PartialMode.{PartialMode}
use Rattle.jiter_scan.specs.declared.partial_mode.PartialMode.TheVariants.{Off}
use Rattle.jiter_scan.specs.declared.number.partial_number.Stage.{Stage}
use Rattle.jiter_scan.specs.declared.number.partial_number.PartialNumber.{PartialNumber}
use Rattle.jiter_scan.specs.declared.partial_word.PartialWord.{PartialWord}
use Rattle.jiter_steps.specs.Blank.{past_blanks}
use Rattle.jiter_steps.specs.Frames.{key_from, value_from, value_in}
use Rattle.jiter_steps.specs.Literal.{start_of}
use Rattle.jiter_steps.specs.Node.{nesting_limit, number_tree}
use Rattle.jiter_steps.specs.PartialString.{HasTaken}
use Rattle.jiter_steps.specs.PartialText.{with_text}
use Rattle.jiter_steps.specs.Read.{Reading, done, fault, prefix_answer}
use Rattle.jiter_steps.specs.Tree.{Text, Tree, big, float, object, members_of, string}
use Rattle.jiter_steps.specs.declared.parse.Start.{Start}
use Rattle.jiter_steps.specs.declared.parse.Start.TheVariants as start
use Rattle.jiter_steps.specs.declared.partial_string.PartialString.{PartialString}
use Rattle.jiter_incremental.specs.Arrived.{Arrived, IsLeft, OpenValue, at_value, at_end, owned}
use Rattle.jiter_incremental.specs.Between.{completed, text_of}
use Rattle.jiter_incremental.specs.Names.{name_bytes, name_span, name_start, name_word}
use Rattle.jiter_incremental.specs.Slot.{AwaitsPart, HasValue, IsOfKey, OpenFrame, filled}
use Rattle.jiter_value.specs.Owned.{owned_text, tree_as}
use Rattle.jiter_value.specs.Settings.{answer_as, rules_as}
use Rattle.jiter_incremental.specs.declared.names.WordValue.{WordValue}
use Rattle.jiter_incremental.specs.declared.names.WordValue.TheVariants as name
use Rattle.jiter_incremental.specs.declared.reader.Token.{Token}
use Rattle.jiter_incremental.specs.declared.reader.Token.TheVariants as token
use Rattle.jiter_incremental.specs.declared.reader.Awaits.TheVariants as awaits
use Rattle.jiter_value.specs.declared.parse.settings.Settings.{Settings}

-- All that is known of the bytes so far, and the value so far.
pub record Document : Type 0 where
  pub settings : Settings
  pub position : ℕ
  pub begin : ℕ
  pub token : Token
  pub shown : Bool
  pub name : WordValue
  pub word : PartialWord
  pub number : PartialNumber
  pub string : PartialString
  pub value : OpenValue
  pub fault : Option Fault
  pub first : Option Fault

-- the same with partial reading off
abbrev pub strictly : Settings → Settings
strictly p = record { allow_inf_nan = p.allow_inf_nan; mode = Off }

-- What the bytes so far leave open: no scalar or key is unfinished; or inside these containers a scalar is that begins
-- there; or a key, in an object that has these members.
pub data Opened : Type 0 where
  between_tokens : Arrived → Opened
  in_scalar : List OpenFrame → ℕ → Opened
  in_key : List OpenFrame → List (Text × Tree) → ℕ → Opened

-- what the rest of a text completes it to, from j on
abbrev pub opened_to : Settings → List ℕ → Opened → ℕ → Reading Tree
opened_to p t (between_tokens s) j = completed p t s j
opened_to p t (in_scalar fs b) j = value_from (rules_as owned p) t fs b
opened_to p t (in_key fs ms b) j = key_from (rules_as owned p) t fs ms b

-- What is known of the bytes t by these settings, where u comes after them: they are refused with this error; or u
-- completes what is open to the value that the whole begins with.
abbrev pub ReadsAt : Settings → List ℕ → List ℕ → Option Fault → Opened → Type 0
ReadsAt p t u (Some f) o = (stop : ℕ) × (answer_as owned p (t ++ u) ≡ fault (fault_kind f.kind) f.index stop)
ReadsAt p t u None o = prefix_answer (rules_as owned p) (t ++ u) ≡ opened_to p (t ++ u) o (length t)

-- between a whole value and here is whitespace alone
abbrev pub EndsRight : List ℕ → Opened → Type 0
EndsRight t (between_tokens (at_end v n)) =
    (n ≤ length t) × ((u : List ℕ) → past_blanks (t ++ u) (length t - n) ≡ past_blanks (t ++ u) (length t))
EndsRight t other = Unit {0}

-- the bytes w, wherever they are, begin the word of a name that has come so far
pub record HoldsWord (k : WordValue) (o : PartialWord) (w : List ℕ) : Type 0 where
  pub word : o.word.now ≡ name_word k
  pub spelled : w ++ drop o.seen o.word.now ≡ name_bytes k
  pub goes : (t : List ℕ) (b : ℕ) → Stands t b (b + length w) w
      → name_span k t b ≡ word_from o.word.now o.seen t (b + length w)

-- the names of floats are words only where they are allowed
abbrev pub IsAllowed : Settings → WordValue → Type 0
IsAllowed p (name.Literal l) = Unit {0}
IsAllowed p other = p.allow_inf_nan ≡ true

-- these bytes begin with one that begins such a value
pub record BeginsAs (w : List ℕ) (s : Start) : Type 0 where
  pub first : ℕ
  pub rest : List ℕ
  pub is : w ≡ first ∷ rest
  pub starts : start_of first ≡ s

-- a string has taken these bytes, its opening quote among them
pub record HoldsString (d : Document) (w : List ℕ) : Type 0 where
  pub rest : List ℕ
  pub is : w ≡ ascii.quote ∷ rest
  pub taken : HasTaken d.string rest

-- the scalar that is unfinished has taken these bytes
abbrev pub HoldsScalar : Document → Token → List ℕ → Type 0
HoldsScalar d token.Word w =
    HoldsWord d.name d.word w × IsAllowed d.settings d.name × BeginsAs w (name_start d.name)
HoldsScalar d token.Number w = HoldsNumber d.number w × BeginsAs w start.Number
HoldsScalar d token.Text w = HoldsString d w
HoldsScalar d other w = ⊥

-- The token that is unfinished begins at b: it has taken the bytes from there on.
pub record TakenFrom (d : Document) (t : List ℕ) (b : ℕ) (w : List ℕ) : Type 0 where
  pub prefix : List ℕ
  pub is : t ≡ prefix ++ w
  pub begin : length prefix ≡ b
  pub place : d.begin ≡ b

-- What is held of a document is what its bytes so far leave open.
abbrev pub HoldsOpened : Document → List ℕ → Opened → Type 0
HoldsOpened d t (between_tokens s) = (d.token ≡ token.Nothing) × IsLeft d.value s
HoldsOpened d t (in_scalar fs b) =
    (w : List ℕ) × TakenFrom d t b w × HoldsScalar d d.token w × IsLeft d.value (at_value awaits.Value fs)
    × (length fs ≤ nesting_limit)
HoldsOpened d t (in_key fs ms b) =
    (w : List ℕ) × TakenFrom d t b w × (d.token ≡ token.Key) × HoldsString d w × (d.value.awaits ≡ awaits.Colon)
    × (d.value.depth ≡ length fs + 1) × (d.value.tree ≡ filled fs (object (members_of ms)))

-- What is known of what comes after some bytes: nothing, or that it begins with this byte
pub data Next : Type 0 where
  any_bytes : Next
  with_byte : ℕ → Next

abbrev pub MayFollow : Next → List ℕ → Type 0
MayFollow any_bytes u = Unit {0}
MayFollow (with_byte c) u = (v : List ℕ) × (u ≡ c ∷ v)

-- after the bytes w, where these are before what comes
abbrev pub Follows : Next → List ℕ → Next → Type 0
Follows n w m = (u : List ℕ) → MayFollow m u → MayFollow n (w ++ u)

-- A document is read in its own mode, and with partial reading off:
pub data Strictness : Type 0 where
  by_mode : Strictness
  strict : Strictness

-- by these settings,
abbrev pub settings_by : Strictness → Settings → Settings
settings_by by_mode p = p
settings_by strict p = strictly p

-- with this one of the two first errors.
abbrev pub fault_by : Strictness → Option Fault → Option Fault → Option Fault
fault_by by_mode f g = f
fault_by strict f g = g

-- The bytes t were read: by each strictness they are refused for good with the error that was found, or what comes
-- after them completes what is open.
pub record ReadSoFar (n : Next) (d : Document) (t : List ℕ) (o : Opened) : Type 0 where
  pub reads : (by : Strictness) (u : List ℕ) → MayFollow n u
      → ReadsAt (settings_by by d.settings) t u (fault_by by d.fault d.first) o
  pub ends : d.first ≡ None → EndsRight t o
  pub noted : d.first ≡ None → d.fault ≡ None
  pub same : is_active d.settings.mode ≡ false → d.fault ≡ None → d.first ≡ None

-- and the document holds what is open.
pub record HasTakenIn (n : Next) (d : Document) (t : List ℕ) : Type 0 where
  pub opened : Opened
  pub known : ReadSoFar n d t opened
  pub held : d.fault ≡ None → HoldsOpened d t opened

-- These bytes have come: they were read, whatever comes, and the position is after them.
pub record HasTakenAll (d : Document) (t : List ℕ) : Type 0 where
  pub read : HasTakenIn any_bytes d t
  pub position : d.position ≡ length t

-- the scalar that is unfinished is a value where the input ends,
abbrev pub shown_by : PartialMode → Stage → Bool → Token → Bool
shown_by mode stage broken token.Number = is_whole stage
shown_by mode stage broken token.Text = allows_trailing_strings mode && not broken
shown_by mode stage broken other = false

abbrev pub shown_as : Document → Token → Bool
shown_as d k = shown_by d.settings.mode d.number.stage d.string.text.broken k

abbrev pub is_shown : Document → Bool
is_shown d = shown_as d d.token

-- and this one.
abbrev pub token_tree : Document → Token → Tree
token_tree d token.Number = tree_as owned_text (number_tree (number_value (string_bytes d.number.text)))
token_tree d other = string (text_of d.string.text.text)

-- the bytes of a number that its tree holds, or those that are kept beside it
abbrev pub bytes_in : Tree → List ℕ → List ℕ
bytes_in (big s) w = s.bytes
bytes_in (float s) w = s.bytes
bytes_in other w = w

-- The text of the unfinished scalar moved into the value so far, where it is x.
abbrev pub HasMoved : Token → Document → PartialNumber → PartialString → Tree → Type 0
HasMoved token.Number d n s x =
    (n.stage ≡ d.number.stage) × (bytes_in x (string_bytes n.text) ≡ string_bytes d.number.text)
HasMoved token.Text d n s x = (s.text ≡ with_text d.string.text []) × (s.escape ≡ d.string.escape)
HasMoved other d n s x = ⊥

-- This value is in the value so far where one was awaited.
pub record IsShown (old new : OpenValue) (x : Tree) : Type 0 where
  pub value : (fs : List OpenFrame) → AwaitsPart old.depth old.tree fs → IsOfKey old.key fs
      → HasValue new.depth new.tree fs x
  pub awaits : new.awaits ≡ old.awaits

-- The unfinished scalar was moved into the value so far, or not.
abbrev pub IsMoved : Bool → Document → Document → Type 0
IsMoved false old new = (new.number ≡ old.number) × (new.string ≡ old.string) × (new.value ≡ old.value)
IsMoved true old new = HasMoved old.token old new.number new.string (token_tree old old.token)
    × IsShown old.value new.value (token_tree old old.token)

-- the same document, with these parts
abbrev pub with_parts : Document → Bool → PartialNumber → PartialString → OpenValue → Document
with_parts d shown n s v = record d { shown = shown; number = n; string = s; value = v }

-- What is open is held, and the unfinished scalar is in the value so far if it is a value already.
pub record Settled (d : Document) (t : List ℕ) (o : Opened) : Type 0 where
  pub apart : Document
  pub held : HoldsOpened apart t o
  pub shows : d.shown ≡ is_shown apart
  pub same : d ≡ with_parts apart d.shown d.number d.string d.value
  pub moved : IsMoved d.shown apart d

-- What is open is held, and the unfinished scalar may be in the value so far, if it is a value already.
pub record Parted (d : Document) (t : List ℕ) (o : Opened) : Type 0 where
  pub apart : Document
  pub held : HoldsOpened apart t o
  pub sure : d.shown ≡ true → is_shown apart ≡ true
  pub same : d ≡ with_parts apart d.shown d.number d.string d.value
  pub moved : IsMoved d.shown apart d

-- These bytes were read.
pub record HasReadIn (n : Next) (d : Document) (t : List ℕ) : Type 0 where
  pub opened : Opened
  pub known : ReadSoFar n d t opened
  pub held : d.fault ≡ None → Parted d t opened

-- These bytes have arrived: they were read, whatever comes, the position is after them, and the value so far is complete.
pub record HasArrived (d : Document) (t : List ℕ) : Type 0 where
  pub read : HasReadIn any_bytes d t
  pub position : d.position ≡ length t
  pub full : d.fault ≡ None → d.shown ≡ false → is_shown d ≡ false

-- The same before a byte c, where the value may have moved on already: it left this open there.
pub record StandsAt (c : ℕ) (d : Document) (t : List ℕ) (s : Arrived) : Type 0 where
  pub known : ReadSoFar (with_byte c) d t (between_tokens s)
  pub token : d.token ≡ token.Nothing
  pub unset : d.fault ≡ None
  pub position : d.position ≡ length t

-- A scalar begins with the byte c, which comes next, inside these containers.
pub record BeginsHere (c : ℕ) (d : Document) (t : List ℕ) (fs : List OpenFrame) : Type 0 where
  pub known : ReadSoFar (with_byte c) d t (in_scalar fs (length t))
  pub left : IsLeft d.value (at_value awaits.Value fs)
  pub low : length fs ≤ nesting_limit
  pub unset : d.fault ≡ None
  pub position : d.position ≡ length t

-- the word of a name begins with c, wherever it is
pub record WordBegins (k : WordValue) (c : ℕ) : Type 0 where
  pub spelled : c ∷ drop 1 (name_word k) ≡ name_bytes k
  pub goes : (t : List ℕ) (b : ℕ) → slice_get t b ≡ Some c → name_span k t b ≡ word_from (name_word k) 1 t (b + 1)

-- The document is still read by these settings.
abbrev pub IsReading : Document → Settings → Type 0
IsReading d p = (by : Strictness) × (p ≡ settings_by by d.settings) × (fault_by by d.fault d.first ≡ None)

-- by them a text is refused so,
abbrev pub IsFaulty : Settings → List ℕ → Kind → ℕ → Type 0
IsFaulty p t k i = (stop : ℕ) × (prefix_answer (rules_as owned p) t ≡ fault k i stop)

-- and each text is that has these bytes and what comes then.
abbrev pub IsRefused : Document → Next → List ℕ → Kind → ℕ → Type 0
IsRefused d m t k i = (p : Settings) (u : List ℕ) → IsReading d p → MayFollow m u → IsFaulty p (t ++ u) k i

-- Each text is answered with this error that has these bytes and what comes then.
abbrev pub IsAnswered : Settings → List ℕ → Kind → ℕ → Type 0
IsAnswered p t k i = (stop : ℕ) × (answer_as owned p t ≡ fault k i stop)

abbrev pub IsEnded : Document → Next → List ℕ → Kind → ℕ → Type 0
IsEnded d m t k i = (p : Settings) (u : List ℕ) → IsReading d p → MayFollow m u → IsAnswered p (t ++ u) k i

-- A scalar that begins at b in so many containers is read as this value, to the end of these bytes.
abbrev pub IsReadAs : Document → Next → List ℕ → ℕ → ℕ → Tree → Type 0
IsReadAs d m t depth b v =
    (p : Settings) (u : List ℕ) → IsReading d p → MayFollow m u
    → value_in (rules_as owned p) (t ++ u) depth b ≡ done v (length t)

-- a number of these bytes, its text owned
abbrev pub own_number : List ℕ → Tree
own_number w = tree_as owned_text (number_tree (number_value w))

-- A scalar of this value begins here with the bytes w, and ends before the byte c, which comes then.
pub record EndsBefore (d : Document) (t w : List ℕ) (c : ℕ) (fs : List OpenFrame) (v : Tree) : Type 0 where
  pub first : ℕ
  pub rest : List ℕ
  pub is : w ≡ first ∷ rest
  pub begins : BeginsHere first d t fs
  pub reads : IsReadAs d (with_byte c) (t ++ w) (length fs) (length t) v

-- A number of this value is in a chunk from a place on to before e. Its first byte begins numbers, and wherever its
-- bytes are with the one after them, it is read to there.
pub record IsNumberWithin (chunk : List ℕ) (at : ℕ) (v : Tree) (e : ℕ) : Type 0 where
  pub begins : begins_decimal (slice_index chunk at) ≡ true
  pub number : Number
  pub ends : EndsWithin chunk at number e
  pub is : v ≡ tree_as owned_text (number_tree number)

-- A scalar of this value is in a chunk from a place on to before e: after whatever bytes it is, and whatever
-- comes, it is read to there.
pub record IsScalarWithin (chunk : List ℕ) (at : ℕ) (v : Tree) (e : ℕ) : Type 0 where
  pub begins : at < e
  pub within : e ≤ length chunk
  pub reads : (p : Settings) (t u : List ℕ) (depth : ℕ) → depth ≤ nesting_limit
      → value_in (rules_as owned p) ((t ++ slice_range chunk at e) ++ u) depth (length t)
      ≡ done v (length (t ++ slice_range chunk at e))

-- A name that begins with this byte, wherever it is, where names are allowed; else no value does.
pub record NameBegins (k : WordValue) (c : ℕ) : Type 0 where
  pub starts : start_of c ≡ name_start k
  pub number : name_start k ≡ start.Number
  pub allowed : WordBegins k c
  pub denied : (t : List ℕ) (b : ℕ) → slice_get t b ≡ Some c → number_span false t b ≡ failed expected_value b

-- The document holds a scalar that begins at b, of which the minus alone was taken.
pub record HoldsMinus (d : Document) (t : List ℕ) (fs : List OpenFrame) (b : ℕ) : Type 0 where
  pub prefix : List ℕ
  pub is : t ≡ prefix ++ ascii.minus ∷ []
  pub begin : length prefix ≡ b
  pub place : d.begin ≡ b
  pub left : IsLeft d.value (at_value awaits.Value fs)
  pub low : length fs ≤ nesting_limit

-- An allocation may fail from the first byte on that is not whitespace, before a byte.
pub record MayRefuseAt (t : List ℕ) (i : ℕ) : Type 0 where
  pub begun : past_blanks t 0 ≤ i
  pub before : i < length t

-- No byte changes the answers any more: the bytes are refused for good; or with partial reading off, and the value
-- is whole.
abbrev pub IsOver : Document → Type 0
IsOver d =
    ((f : Fault) × (d.fault ≡ Some f))
    ⊎ ((f : Fault) × (d.first ≡ Some f) × (d.token ≡ token.Nothing) × (d.value.awaits ≡ awaits.Nothing))

-- the first error, where one of this kind is met there
abbrev pub noted_in : Option Fault → FaultKind → ℕ → Option Fault
noted_in (Some f) k i = Some f
noted_in None k i = Some (record { kind = k; index = i })

-- the same document, with this first error
abbrev pub with_first : Document → Option Fault → Document
with_first d f = record d { first = f }
