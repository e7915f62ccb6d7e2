-- A string that is borrowed from the bytes, or has memory of its own.
use Rattle.std.proofs.Common.{◌≡◌, ◌∙◌, sym, ap, subst}
use Rattle.std.specs.Cow.{cow_str_bytes}
use Rattle.std.specs.Prelude.{Result, Ok, Err, IfErr, IfOk, IsErrAnd}
use Rattle.std.specs.declared.alloc.Global.{Global}
use Rattle.std.specs.declared.borrow.CowStr.{CowStr}
use Rattle.jiter_steps.specs.Tree.{Tree}
use Rattle.jiter.specs.Caller.{Node, ReaderState, Reads, WantsMemory, begin, end, gave, next, reply_seen, str_read}
use Rattle.jiter.specs.Caller.{str_told, string_memory, text_bytes, text_view, value_of, value_place}
use Rattle.jiter.specs.declared.errors.JiterError.{JiterError}
use Rattle.jiter.proofs.Walking.{gave-is, gave-refused}
use Rattle.jiter_walk.specs.declared.walk_error.WalkError.{WalkError}
use Rattle.jiter_walk.specs.declared.walk_error.WalkError.TheVariants as variant
use Rattle.jiter_walk.specs.Walk.{Comes, IsOutOfMemory, index_of}
use Rattle.jiter_walk.proofs.Coming.{comes-tells}

module _ (s0 s : ReaderState) (x : Result (CowStr Global) JiterError)
    (h : Reads (string_memory s0.text (value_place s0)) text_view (next s0 (str_read s0)) x s0 s) where
  -- The string that comes next, by its bytes.
  pub bytes-read : Reads (string_memory s0.text (value_place s0)) cow_str_bytes
      (reply_seen text_bytes (next s0 (str_read s0))) x s0 s
  bytes-read = by x h where
    by : (x : Result (CowStr Global) JiterError)
        → Reads (string_memory s0.text (value_place s0)) text_view (next s0 (str_read s0)) x s0 s
        → Reads (string_memory s0.text (value_place s0)) cow_str_bytes (reply_seen text_bytes (next s0 (str_read s0))) x s0 s
    by (Ok a) h =
        record { moves = h.moves; value = ap (reply_seen text_bytes) h.value; index = h.index; memory = h.memory }
    by (Err e) h =
        record { moves = h.moves; value = λ m. ap (reply_seen text_bytes) (h.value m); index = h.index; memory = h.memory }

-- It is the string of the value's tree.
pub string-given : (s0 s : ReaderState) (a : CowStr Global)
    → Reads (string_memory s0.text (value_place s0)) text_view (next s0 (str_read s0)) (Ok a) s0 s
    → (n : Node) → Comes s0 n → value_of s0.text n ≡ Tree.string (text_view a)
string-given s0 s a h n comes = by (value_of s0.text n) (sym (comes-tells s0 n comes).text ∙ h.value) where
  by : (v : Tree) → str_told v (begin n) (end n) ≡ gave (text_view a) s.position → v ≡ Tree.string (text_view a)
  by (Tree.string t) is = ap Tree.string (gave-is t (text_view a) (end n) s.position is).0
  by v is = absurd (gave-refused (sym is))

-- No string is, where the call fails.
pub no-string : {C : Type 0} (x : Result (CowStr Global) (WalkError C)) (e : JiterError) (P : CowStr Global → Type 0)
    → IsErrAnd x (λ d. d ≡ variant.Reader e) → IfOk x P
no-string (Ok a) e P is = absurd is
no-string (Err d) e P is = tt

-- Memory runs out at a string with a backslash.
pub backslash-there : {C : Type 0} (s0 s : ReaderState) (e : JiterError) (x : Result (CowStr Global) (WalkError C))
    → IsErrAnd x (λ d. d ≡ variant.Reader e)
    → Reads (string_memory s0.text (value_place s0)) text_view (next s0 (str_read s0)) (Err e) s0 s
    → IfErr x (λ d. IsOutOfMemory d → WantsMemory s0.text (index_of d))
backslash-there s0 s e (Ok a) is h = absurd is
backslash-there {C = C} s0 s e (Err d) is h = subst P (sym is) there where
  P : WalkError C → Type 0
  P d = IsOutOfMemory d → WantsMemory s0.text (index_of d)

  there : P (variant.Reader e)
  there m =
      let out = h.memory (cc) in
      subst (WantsMemory s0.text) (sym out.1.0) out.1.2
