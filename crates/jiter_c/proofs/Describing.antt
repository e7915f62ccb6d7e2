-- The text of an error, written part by part.
use Rattle.std.proofs.Common.{◌≡◌, ◌∙◌, ◌+◌, ◌≤◌, ◌++◌, ℕ, true, List, [], ◌∷◌, length, refl, sym, ap, arith}
use Rattle.std.specs.Prelude.{◌&&◌, ◌||◌, codes, decimal, nat_eq}
use Rattle.std.proofs.lemmas.List.{append_assoc, length-append}
use Rattle.jiter.specs.Cause.{Cause, ValueType, cause_text, error_description, type_text}
use Rattle.jiter_scan.specs.Kind.{kind_of, kind_text}
use Rattle.jiter_scan.specs.Position.{position_of, position_text}
use Rattle.jiter_scan.specs.declared.errors.LinePosition.{LinePosition}
use Rattle.jiter_scan.specs.declared.errors.JsonErrorType.{JsonErrorType}
use Rattle.jiter_scan.specs.declared.errors.JsonErrorType.TheVariants as code
use Rattle.jiter_c.specs.Descriptions.{IsTypeText, WritesCause}
use Rattle.jiter_c.specs.Faults.{Describes, is_kind_number, is_type_number, has_cause, kind_number, type_number}
use Rattle.jiter_c.specs.Faults.{wrong_type_number}
use Rattle.jiter_c.specs.Reports.{Appends, written}
use Rattle.jiter_c.specs.declared.faults.JiterFault.{JiterFault}

pub kind-short : (c : JsonErrorType) → length (kind_text (kind_of c)) ≤ 100
kind-short code.FloatExpectingInt = omega arith
kind-short code.EofWhileParsingList = omega arith
kind-short code.EofWhileParsingObject = omega arith
kind-short code.EofWhileParsingString = omega arith
kind-short code.EofWhileParsingValue = omega arith
kind-short code.ExpectedColon = omega arith
kind-short code.ExpectedListCommaOrEnd = omega arith
kind-short code.ExpectedObjectCommaOrEnd = omega arith
kind-short code.ExpectedSomeIdent = omega arith
kind-short code.ExpectedSomeValue = omega arith
kind-short code.InvalidEscape = omega arith
kind-short code.InvalidNumber = omega arith
kind-short code.NumberOutOfRange = omega arith
kind-short code.InvalidUnicodeCodePoint = omega arith
kind-short code.ControlCharacterWhileParsingString = omega arith
kind-short code.KeyMustBeAString = omega arith
kind-short code.LoneLeadingSurrogateInHexEscape = omega arith
kind-short code.TrailingComma = omega arith
kind-short code.TrailingCharacters = omega arith
kind-short code.UnexpectedEndOfHexEscape = omega arith
kind-short code.RecursionLimitExceeded = omega arith
kind-short code.OutOfMemory = omega arith

written-start : (out : List ℕ) → out ≡ written [] out
written-start [] = refl
written-start (o ∷ out) = refl

-- a first text, and one after what was written
pub starts : (text out later : List ℕ) → Appends 0 text out later → later ≡ written text out
starts text out later h = h [] out refl (written-start out)

types-numbered : (v : ValueType) → is_type_number (type_number v) ≡ true
types-numbered ValueType.null = refl
types-numbered ValueType.bool = refl
types-numbered ValueType.int = refl
types-numbered ValueType.float = refl
types-numbered ValueType.string = refl
types-numbered ValueType.array = refl
types-numbered ValueType.object = refl

pub type-named : (n : ℕ) (v : ValueType) (text : List ℕ) → n ≡ type_number v → text ≡ type_text v → length text ≤ 6
    → (is_type_number n ≡ true) × IsTypeText n text
type-named n v text is spelled short = (
  ap is_type_number is ∙ types-numbered v,
  record { named = v; numbered = is; spelled = spelled; short = short },
)

-- the text of a kind
pub kind-written : (f : JiterFault) (kind : JsonErrorType) (text out later : List ℕ) (count : ℕ)
    → true ≡ is_kind_number f.kind → f.kind ≡ kind_number (kind_of kind) → text ≡ kind_text (kind_of kind)
    → Appends 0 text out later → count ≡ 0 + length text → (has_cause f ≡ true) × WritesCause f out later count
kind-written f kind text out later count known is spelled appends counted =
    let sized : count ≡ length (kind_text (kind_of kind)) = omega (arith, counted, ap (λ (t : List ℕ). length t) spelled) in (
      ap (λ b. b || (nat_eq f.kind wrong_type_number && (is_type_number f.expected && is_type_number f.actual))) (sym known),
      record {
        cause = Cause.json_error (kind_of kind);
        has = is;
        written = starts text out later appends ∙ ap (λ t. written t out) spelled;
        counted = sized;
        short = omega (arith, sized, kind-short kind);
      },
    )

-- Four texts after one that is written.
module _ (start a b c d out o0 o1 o2 o3 o4 : List ℕ) (n0 n1 n2 n3 n4 : ℕ) (w0 : o0 ≡ written start out)
    (s0 : n0 ≡ length start) (h1 : Appends n0 a o0 o1) (s1 : n1 ≡ n0 + length a) (h2 : Appends n1 b o1 o2)
    (s2 : n2 ≡ n1 + length b) (h3 : Appends n2 c o2 o3) (s3 : n3 ≡ n2 + length c) (h4 : Appends n3 d o3 o4)
    (s4 : n4 ≡ n3 + length d) where
  sized : (x y : List ℕ) (m n : ℕ) → m ≡ length x → n ≡ m + length y → n ≡ length (x ++ y)
  sized x y m n hm hn = omega (arith, hm, hn, length-append x y)

  one : n1 ≡ length (start ++ a)
  one = sized start a n0 n1 s0 s1

  two : n2 ≡ length ((start ++ a) ++ b)
  two = sized (start ++ a) b n1 n2 one s2

  three : n3 ≡ length (((start ++ a) ++ b) ++ c)
  three = sized ((start ++ a) ++ b) c n2 n3 two s3

  joined : (((start ++ a) ++ b) ++ c) ++ d ≡ start ++ (a ++ (b ++ (c ++ d)))
  joined =
      append_assoc ((start ++ a) ++ b) c d ∙ append_assoc (start ++ a) b (c ++ d) ∙ append_assoc start a (b ++ (c ++ d))

  pub four-written : o4 ≡ written (start ++ (a ++ (b ++ (c ++ d)))) out
  four-written =
      h4 (((start ++ a) ++ b) ++ c) out (sym three)
      (h3 ((start ++ a) ++ b) out (sym two) (h2 (start ++ a) out (sym one) (h1 start out (sym s0) w0)))
      ∙ ap (λ t. written t out) joined

  pub four-counted : n4 ≡ length (start ++ (a ++ (b ++ (c ++ d))))
  four-counted = sized (((start ++ a) ++ b) ++ c) d n3 n4 three s4 ∙ ap length joined

-- the cause, and then the line and the column
pub position-written : (f : JiterFault) (t out o0 o1 o2 o3 o4 : List ℕ) (n0 n1 n2 n3 n4 : ℕ) (p : LinePosition)
    → WritesCause f out o0 n0 → p ≡ position_of t f.index → Appends n0 (codes " at line ") o0 o1
    → n1 ≡ n0 + length (codes " at line ") → Appends n1 (decimal p.line) o1 o2 → n2 ≡ n1 + length (decimal p.line)
    → Appends n2 (codes " column ") o2 o3 → n3 ≡ n2 + length (codes " column ") → Appends n3 (decimal p.column) o3 o4
    → n4 ≡ n3 + length (decimal p.column)
    → (text : List ℕ) × Describes t f text × (o4 ≡ written text out) × (n4 ≡ length text)
position-written f t out o0 o1 o2 o3 o4 n0 n1 n2 n3 n4 p cause is h1 s1 h2 s2 h3 s3 h4 s4 =
    let text : LinePosition → List ℕ = λ q. cause_text cause.cause ++ (codes " at " ++ position_text q) in (
      error_description cause.cause f.index t,
      (cause.cause, cause.has, refl),
      four-written (cause_text cause.cause) (codes " at line ") (decimal p.line) (codes " column ") (decimal p.column) out
          o0 o1 o2 o3 o4 n0 n1 n2 n3 n4 cause.written cause.counted h1 s1 h2 s2 h3 s3 h4 s4
          ∙ ap (λ q. written (text q) out) is,
      four-counted (cause_text cause.cause) (codes " at line ") (decimal p.line) (codes " column ") (decimal p.column) out
          o0 o1 o2 o3 o4 n0 n1 n2 n3 n4 cause.written cause.counted h1 s1 h2 s2 h3 s3 h4 s4
          ∙ ap (λ q. length (text q)) is,
    )

-- the text of a wrong type
pub types-written : (f : JiterFault) (out o1 o2 o3 later wanted found : List ℕ) (n1 n2 n3 count : ℕ)
    → f.kind ≡ wrong_type_number → is_type_number f.expected ≡ true → IsTypeText f.expected wanted
    → is_type_number f.actual ≡ true → IsTypeText f.actual found
    → Appends 0 (codes "expected ") out o1 → n1 ≡ 0 + length (codes "expected ") → Appends n1 wanted o1 o2
    → n2 ≡ n1 + length wanted → Appends n2 (codes " but found ") o2 o3 → n3 ≡ n2 + length (codes " but found ")
    → Appends n3 found o3 later → count ≡ n3 + length found → (has_cause f ≡ true) × WritesCause f out later count
types-written f out o1 o2 o3 later wanted found n1 n2 n3 count kind is_expected expected is_actual actual h1 s1 h2 s2 h3
    s3 h4 s4 =
    let start = written-start out in
    let is : later ≡ written (codes "expected " ++ (wanted ++ (codes " but found " ++ found))) out =
    four-written [] (codes "expected ") wanted (codes " but found ") found out out o1 o2 o3 later 0 n1 n2 n3 count start
    refl h1 s1 h2 s2 h3 s3 h4 s4 in
    let counted : count ≡ length (codes "expected " ++ (wanted ++ (codes " but found " ++ found))) =
    four-counted [] (codes "expected ") wanted (codes " but found ") found out out o1 o2 o3 later 0 n1 n2 n3 count start
    refl h1 s1 h2 s2 h3 s3 h4 s4 in
    let text : codes "expected " ++ (wanted ++ (codes " but found " ++ found))
    ≡ cause_text (Cause.wrong_type expected.named actual.named) =
    ap (λ w. codes "expected " ++ (w ++ (codes " but found " ++ found))) expected.spelled
    ∙ ap (λ w. codes "expected " ++ (type_text expected.named ++ (codes " but found " ++ w))) actual.spelled in (
      ap (λ n. is_kind_number n || (nat_eq n wrong_type_number && (is_type_number f.expected && is_type_number f.actual))) kind
          ∙ ap (λ b. b && is_type_number f.actual) is_expected ∙ is_actual,
      record {
        cause = Cause.wrong_type expected.named actual.named;
        has = (kind, expected.numbered, actual.numbered);
        written = is ∙ ap (λ t. written t out) text;
        counted = counted ∙ ap length text;
        short = omega (arith, s1, s2, s3, s4, expected.short, actual.short);
      },
    )
