-- What is shown of an input that arrives in pieces.
use Rattle.std.specs.Prelude.{◌≡◌, ◌⊎◌, ◌≤◌, ℕ, Bool, true, false, List, [], ◌∷◌, ◌++◌, bytes_eq, if◌then◌else◌}
use Rattle.std.specs.Prelude.{length, take, Option, Some, None, Result, Ok, Err}
use Rattle.std.specs.List.{concat, dedup, flat_map}
use Rattle.std.specs.Io.{StartsWith}
use Rattle.std.specs.Io.KnownBytes.{Appends, Keeps}
use Rattle.jiter.specs.Caller.{Reading, done, fault, Tree, answer_in, cut}
use Rattle.jiter.specs.Caller.{IsBegunContainer, IsDocument, Node}
use Rattle.jiter_print.specs.Print.{print_of, with_line_feed}
use Rattle.jiter_print.specs.Written.{AppendsPrefix}
use Rattle.json_screen.specs.Parts.{inside_of, parts_of}
use Rattle.json_screen.specs.Report.{error_of, error_text, has_mark, next_document}
use Rattle.json_screen.specs.Rows.{rows_of}
use Rattle.json_screen.specs.Terminal.{dimmed, IsPlain, Redraws}
use Rattle.json_screen.specs.declared.input.Options.{Options}
use Rattle.json_screen.specs.declared.screen.Shown.{Shown}
use Rattle.viewer.specs.declared.view.Output.{Output}
use Rattle.viewer.specs.declared.view.Output.TheVariants.{Value, Lines, Rows}
use Rattle.viewer.specs.declared.view.Settings.{Settings}

-- the line of what was read, if it is a value
abbrev pub value_line : Reading Tree → Option (List ℕ)
value_line (done v e) = Some (with_line_feed (print_of v))
value_line (fault k i stop) = None

-- the line that is the last one, where another may have come
abbrev pub last_line : List ℕ → Option (List ℕ) → List ℕ
last_line last None = last
last_line last (Some line) = line

-- what is written of it: nothing where it is the last line again
abbrev pub new_line : List ℕ → Option (List ℕ) → List ℕ
new_line last None = []
new_line last (Some line) = if bytes_eq line last then [] else line

-- what is after each piece
abbrev pub prefixes : List ℕ → List (List ℕ) → List (List ℕ)
prefixes t [] = []
prefixes t (p ∷ ps) = (t ++ p) ∷ prefixes (t ++ p) ps

abbrev pub if_any : Option (List ℕ) → List (List ℕ)
if_any None = []
if_any (Some line) = line ∷ []

-- the line of the document in what has arrived, if it has a value
abbrev pub line_at : Options → List ℕ → Option (List ℕ)
line_at options t = value_line (answer_in options.inf_nan options.mode (inside_of t))

abbrev pub lines_at : Options → List ℕ → List (List ℕ)
lines_at options t = if_any (line_at options t)

-- the line of each prefix
abbrev pub lines_of : Options → List (List ℕ) → List (List ℕ)
lines_of options pieces = flat_map (lines_at options) (prefixes [] pieces)

-- what is shown of them: a line that is the one before it is left out
abbrev pub shown : Options → List (List ℕ) → List ℕ
shown options pieces = concat (dedup bytes_eq (lines_of options pieces))

-- what is shown: a text, and where it is dim from
abbrev pub Look : Type 0
Look = List ℕ × ℕ

abbrev pub look : Shown → Look
look s = (s.text.items, s.mark)

-- the bytes that show it on a terminal
abbrev pub sent : Look → List ℕ
sent l = dimmed l.0 l.1

-- the rows of an input so far
abbrev pub look_at : Options → ℕ → List ℕ → Look
look_at options width t = ((rows_of options width t).text, (rows_of options width t).mark)

-- On a terminal: each read writes something, and after each the screen ends with the rows of what has been read.
pub record ShowsRows (options : Options) (width : ℕ) (pieces writes : List (List ℕ)) : Type 0 where
  pub count : length writes ≡ length pieces
  pub rows : (n : ℕ) → 1 ≤ n → n ≤ length pieces
      → Redraws [] (sent (look_at options width (concat (take n pieces)))) (concat (take n writes))

-- what is written while an input is read in these pieces
abbrev pub Shows : Output → Options → List (List ℕ) → List ℕ → Type 0
Shows Value options pieces bytes = bytes ≡ []
Shows Lines options pieces bytes = bytes ≡ shown options pieces
Shows (Rows width) options pieces bytes =
    (writes : List (List ℕ)) × ShowsRows options width pieces writes × (bytes ≡ concat writes)

-- what is written once it has been read: the line of its value, or nothing
abbrev pub shown_at_end : Output → Options → List ℕ → List ℕ
shown_at_end Value options t = concat (lines_at options t)
shown_at_end Lines options t = []
shown_at_end (Rows width) options t = []

-- what is written while all of an input is read, as it came in some pieces
abbrev pub ShowsRead : Output → Options → List ℕ → Option (List ℕ) → Option (List ℕ) → Type 0
ShowsRead output options t out out' =
    (pieces : List (List ℕ)) × (concat pieces ≡ t)
    × ((bytes : List ℕ) × Shows output options pieces bytes × Appends out out' bytes)

-- all that is shown of an input
abbrev pub ShowsAll : Output → Options → List ℕ → Option (List ℕ) → Option (List ℕ) → Type 0
ShowsAll output options t out out' =
    (read : Option (List ℕ)) × ShowsRead output options t out read × Appends read out' (shown_at_end output options t)

-- a prefix of what is shown of a prefix of an input
abbrev pub ShowsPrefix : Output → Options → List ℕ → Option (List ℕ) → Option (List ℕ) → Type 0
ShowsPrefix output options t out out' =
    (pieces : List (List ℕ)) × StartsWith t (concat pieces)
    × ((bytes : List ℕ) × Shows output options pieces bytes × AppendsPrefix out out' bytes)

-- all that is shown while it is read, and a prefix of what is written then
abbrev pub ShowsEndPrefix : Output → Options → List ℕ → Option (List ℕ) → Option (List ℕ) → Type 0
ShowsEndPrefix output options t out out' =
    (read : Option (List ℕ)) × ShowsRead output options t out read × AppendsPrefix read out' (shown_at_end output options t)

-- What a read writes, where `old` was shown before: the new line, or what turns the old rows into the new ones.
abbrev pub Changes : Output → Options → List ℕ → Look → Look → List ℕ → Type 0
Changes Value options t old new bytes = bytes ≡ []
Changes Lines options t old new bytes =
    (new.0 ≡ last_line old.0 (line_at options t)) × (bytes ≡ new_line old.0 (line_at options t))
Changes (Rows width) options t old new bytes =
    (new ≡ look_at options width t) × (IsPlain old.0 → Redraws (sent old) (sent new) bytes)

abbrev pub WritesChange : Output → Options → List ℕ → Look → Look → Option (List ℕ) → Option (List ℕ) → Type 0
WritesChange output options t old new out out' =
    (bytes : List ℕ) × Changes output options t old new bytes × Appends out out' bytes

-- nothing of it, or a prefix
abbrev pub BreaksOff : Output → Options → List ℕ → Look → Option (List ℕ) → Option (List ℕ) → Type 0
BreaksOff output options t old out out' =
    Keeps out out'
    ⊎ ((new : Look) × ((bytes : List ℕ) × Changes output options t old new bytes × AppendsPrefix out out' bytes))

-- at the end of a run the text of an error is written, if there is one: `Ok true` is a document, and `Ok false` none
abbrev pub Tells : {E : Type 0} → List ℕ → List ℕ → Option (ℕ × List ℕ) → Result Bool E → Option (List ℕ) → Option (List ℕ)
    → Type 0
Tells name t None (Ok true) err err' = Keeps err err'
Tells name t None (Ok false) err err' = ⊥
Tells name t None (Err e) err err' = Keeps err err'
Tells name t (Some error) (Ok true) err err' = ⊥
Tells name t (Some error) (Ok false) err err' =
    Appends err err' (error_text name t error.0 error.1)
Tells name t (Some error) (Err e) err err' =
    AppendsPrefix err err' (error_text name t error.0 error.1)

abbrev pub Finishes : {E : Type 0} → Settings → List ℕ → Result Bool E → Option (List ℕ) → Option (List ℕ) → Type 0
Finishes settings t end err err' =
    Tells settings.name.now t (error_of settings.options.inf_nan t) end err err'

-- the whole input was shown, and then its error
abbrev pub ShowsWhole : {E : Type 0} → Settings → List ℕ → Result Bool E → Option (List ℕ) → Option (List ℕ)
    → Option (List ℕ) → Option (List ℕ) → Type 0
ShowsWhole settings t end out out' err err' =
    ShowsAll settings.output settings.options t out out' × Finishes settings t end err err'

-- what a run over these bytes leaves in both writers
abbrev pub Ran : {E : Type 0} → Settings → List ℕ → Result Bool E → Option (List ℕ) → Option (List ℕ)
    → Option (List ℕ) → Option (List ℕ) → Type 0
Ran {E = E} settings t (Ok whole) out out' err err' = ShowsWhole {E = E} settings t (Ok whole) out out' err err'
Ran settings t (Err e) out out' err err' =
    ShowsWhole settings t (Err e) out out' err err'
    ⊎ ((ShowsPrefix settings.output settings.options t out out'
    ⊎ ShowsEndPrefix settings.output settings.options t out out') × Keeps err err')

-- the end tells whether the input has a document, no other one right after it, and no byte order mark
abbrev pub EndsAs : {E : Type 0} → Bool → List ℕ → Result Bool E → Type 0
EndsAs names t (Ok true) =
    ((n : Node) × IsDocument names (inside_of t) n) × (next_document 0 (parts_of t).after ≡ None) × (has_mark t ≡ false)
EndsAs names t (Ok false) =
    (has_mark t ≡ true) ⊎ (((n : Node) → IsDocument names (inside_of t) n → ⊥)
    ⊎ ((i : ℕ) × (next_document 0 (parts_of t).after ≡ Some i)))
EndsAs names t (Err e) = Unit {0}

-- a line that is that of a document's cut
abbrev pub IsLineOfCut : (options : Options) {prefix : List ℕ} → IsBegunContainer options.inf_nan prefix → Option (List ℕ)
    → Type 0
IsLineOfCut options f line =
    (v : Tree) × (cut options.inf_nan f.text f.node f.place options.mode ≡ Some v)
    × (line ≡ Some (with_line_feed (print_of v)))
