-- The values that can be printed, and that each reading gives one of them.
use Rattle.std.proofs.Common.{◌≡◌, ℕ, zero, suc, ◌+◌, ◌==◌, Bool, List, length, refl, sym, ap, eqb-true}
use Rattle.std.specs.Prelude.{Option, Some, None, drop}
use Rattle.std.specs.Str.{IsUtf8}
use Rattle.std.specs.Str.Lossy.{utf8_valid_len, utf8_error_len}
use Rattle.jiter_scan.specs.Kind.{Kind, invalid_code_point, is_forgiven}
use Rattle.jiter_scan.specs.Number.{Number, integer, big, float, IsNumberText, number_value}
use Rattle.jiter_scan.specs.NumberReading.{number_at}
use Rattle.jiter_scan.specs.Scanned.{Scanned, taken, failed}
use Rattle.jiter_scan.specs.Word.{Span}
use Rattle.jiter_scan.specs.declared.partial_mode.PartialMode.{PartialMode}
use Rattle.jiter_scan.specs.declared.partial_mode.PartialMode.TheVariants.{Off, On, TrailingStrings}
use Rattle.jiter_scan.proofs.Choices.{if_case}
use Rattle.jiter_scan.proofs.NumberLaws.{number_at-sound}
use Rattle.jiter_steps.specs.Answer.{seen_as, trees, nothing_forgiven, answer_in}
use Rattle.jiter_steps.specs.Literal.{literal_at, literal_tree}
use Rattle.jiter_steps.specs.Node.{number_tree, nesting_limit}
use Rattle.jiter_steps.specs.StringReading.{Stop, closed, unclosed, cut, wrong, body_at, Form, whole, kept, raw}
use Rattle.jiter_steps.specs.StringReading.{raw_kept, if_utf8, valid_prefix_by, valid_prefix, text_in_form, content_at}
use Rattle.jiter_steps.specs.StringReading.{string_at}
use Rattle.jiter_steps.specs.Tree as tree
use Rattle.jiter_steps.specs.Tree.{Text, Tree, null, boolean, int, string, array, object, Items, no_items, item}
use Rattle.jiter_steps.specs.Tree.{items_of, Members, no_members, member, members_of}
use Rattle.jiter_steps.specs.declared.parse.Literal.{Literal}
use Rattle.jiter_steps.specs.declared.parse.Literal.TheVariants as name
use Rattle.jiter_steps.proofs.Grammar.StringSound.{IsUtf8-valid, valid-IsUtf8}
use Rattle.jiter_print.proofs.GivenValues.{Takes, Gives, Both, Each, Builds, prefix_answer-gives, whole_answer-gives}

-- ---- the values
-- a number's text stands for it
pub record IsNumber (names : Bool) (v : Tree) : Type 0 where
  pub text : List ℕ
  pub is_text : IsNumberText names text
  pub is : number_tree (number_value text) ≡ v

abbrev IsText : Text → Type 0
IsText s = IsUtf8 s.bytes

-- a value: texts are UTF-8, numbers are what numbers' texts stand for, and what a container holds is so
abbrev pub FitsWith : Bool → (Tree → Type 0) → Tree → Type 0
FitsWith names Inside null = Unit {0}
FitsWith names Inside (boolean b) = Unit {0}
FitsWith names Inside (int z) = IsNumber names (int z)
FitsWith names Inside (tree.big s) = IsNumber names (tree.big s)
FitsWith names Inside (tree.float s) = IsNumber names (tree.float s)
FitsWith names Inside (string s) = IsText s
FitsWith names Inside (array js) = (vs : List Tree) × (js ≡ items_of vs) × Each Inside vs
FitsWith names Inside (object ms) = (ps : List (Text × Tree)) × (ms ≡ members_of ps) × Each (Both IsText Inside) ps

-- inside a container with so many levels left, which needs one itself
abbrev pub FitsInside : Bool → ℕ → Tree → Type 0
FitsInside names zero v = ⊥
FitsInside names (suc left) v = FitsWith names (λ w. FitsInside names left w) v

-- No more containers than there are levels are one inside another, empty ones left out.
abbrev pub Fits : Bool → ℕ → Tree → Type 0
Fits names levels v = FitsWith names (λ w. FitsInside names levels w) v

-- ---- what is scanned
literal-fits : (names : Bool) (levels : ℕ) (l : Literal) → Fits names levels (literal_tree l)
literal-fits names levels name.Null = tt
literal-fits names levels name.True = tt
literal-fits names levels name.False = tt

literal_at-fits : (names : Bool) (levels : ℕ) (l : Literal) (x : Span)
    → Takes (Fits names levels) (seen_as (λ u e. literal_tree l) x)
literal_at-fits names levels l (taken u e) = literal-fits names levels l
literal_at-fits names levels l (failed k j) = tt

number-fits : (names : Bool) (levels : ℕ) (x : Number) → IsNumber names (number_tree x)
    → Fits names levels (number_tree x)
number-fits names levels (integer z) h = h
number-fits names levels (big w) h = h
number-fits names levels (float w) h = h

number_at-fits : (names : Bool) (t : List ℕ) (levels i : ℕ) (x : Scanned Number) → number_at names t i ≡ x
    → Takes (Fits names levels) (seen_as (λ n e. number_tree n) x)
number_at-fits names t levels i (taken n e) is =
    let r = number_at-sound names t i n e is in
    number-fits names levels n (record { text = _; is_text = r.0; is = ap number_tree (sym r.1) })
number_at-fits names t levels i (failed k j) is = tt

-- a form whose texts are UTF-8
abbrev Decodes : Form → Type 0
Decodes whole = Unit {0}
Decodes kept = Unit {0}
Decodes raw = ⊥
Decodes raw_kept = ⊥

if_utf8-text : (i : ℕ) (o : Bool) (bs : List ℕ) (e : ℕ) → Takes IsText (if_utf8 i o bs e)
if_utf8-text i o bs e =
    if_case (Takes IsText) (utf8_valid_len bs == length bs) (taken (record { owned = o; bytes = bs }) e)
    (failed invalid_code_point (i + utf8_valid_len bs)) (λ q. valid-IsUtf8 bs (eqb-true _ _ q)) (λ q. tt)

valid_prefix-text : (i : ℕ) (o : Bool) (bs : List ℕ) (e : ℕ) → Takes IsText (valid_prefix i o bs e)
valid_prefix-text i o bs e = by (utf8_error_len (drop (utf8_valid_len bs) bs)) where
  by : (x : Option ℕ) → Takes IsText (valid_prefix_by i o bs e x)
  by None = IsUtf8-valid bs
  by (Some n) = tt

text_in_form-text : (form : Form) → Decodes form → (t : List ℕ) (i : ℕ) (bs : List ℕ) (o : Bool) (s : Stop)
    → Takes IsText (text_in_form form t i bs o s)
text_in_form-text whole d t i bs o (closed e) = if_utf8-text i o bs e
text_in_form-text whole d t i bs o unclosed = tt
text_in_form-text whole d t i bs o cut = tt
text_in_form-text whole d t i bs o (wrong k j) = tt
text_in_form-text kept d t i bs o (closed e) = valid_prefix-text i o bs e
text_in_form-text kept d t i bs o unclosed = valid_prefix-text i o bs (length t)
text_in_form-text kept d t i bs o cut = valid_prefix-text i o bs (length t)
text_in_form-text kept d t i bs o (wrong k j) = tt
text_in_form-text raw d t i bs o s = absurd d
text_in_form-text raw_kept d t i bs o s = absurd d

-- a string's text is UTF-8
string_at-text : (form : Form) → Decodes form → (t : List ℕ) (i : ℕ) → Takes IsText (string_at form t i)
unfolding content_at
string_at-text form d t i =
    let b = body_at t (i + 1) in text_in_form-text form d t (i + 1) b.bytes b.owned b.stop

string-fits : (names : Bool) (levels : ℕ) (x : Scanned Text) → Takes IsText x
    → Takes (Fits names levels) (seen_as (λ s e. string s) x)
string-fits names levels (taken s e) h = h
string-fits names levels (failed k j) h = tt

-- ---- what is built
trees-build : (forgives : Kind → Bool) (form : Form) → Decodes form → (names : Bool) (t : List ℕ)
    → Builds (trees forgives form names) t IsText (Fits names) (FitsInside names)
trees-build forgives form d names t = record {
  literal = λ levels l i. literal_at-fits names levels l (literal_at t l i);
  number = λ levels i. number_at-fits names t levels i (number_at names t i) refl;
  text = λ levels i. string-fits names levels (string_at form t i) (string_at-text form d t i);
  key = λ i. string_at-text whole tt t i;
  array = λ levels b e items h. (items, refl, h);
  object = λ levels b e members h. (members, refl, h);
  inside = λ levels v h. h;
}

-- What a text is read as can be printed, in each mode.
pub answer_in-printable : (names : Bool) (mode : PartialMode) (t : List ℕ)
    → Gives (Fits names nesting_limit) (answer_in names mode t)
answer_in-printable names Off t =
    whole_answer-gives _ t IsText (Fits names) (FitsInside names) (trees-build nothing_forgiven whole tt names t)
answer_in-printable names On t =
    prefix_answer-gives _ t IsText (Fits names) (FitsInside names) (trees-build is_forgiven whole tt names t)
answer_in-printable names TrailingStrings t =
    prefix_answer-gives _ t IsText (Fits names) (FitsInside names) (trees-build is_forgiven kept tt names t)
