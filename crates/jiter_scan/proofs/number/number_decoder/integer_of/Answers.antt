use Rattle.jiter_scan.proofs.Words.{◌≡◌, ◌≢◌, ◌<◌, ◌≤◌, ◌^◌, ◌-◌, ◌∙◌, ℕ, List, pos, ap, slice_range, w64, big, integer}
use Rattle.jiter_scan.proofs.Words.{of_z, to_z, ◌-ℤ◌, rules, positive_value, negative_value}
use Rattle.jiter_scan.proofs.NumberBytes.{IsAscii-integer}
use Rattle.jiter_scan.proofs.NumberValues.{integer_value-positive, integer_value-negative}
use Rattle.jiter_scan.proofs.number.number_decoder.integer_of.Goals as goal
use Rattle.jiter_scan.proofs.number.number_decoder.integer_of.Goals.{then-from-at+else-magnitude-lt-INT_LIMIT}
use Rattle.jiter_scan.proofs.number.number_decoder.integer_of.Goals.{else-from-at+else-magnitude-eq0+else-magnitude-le-INT_LIMIT}

-- the integer of this magnitude where 64 bits hold it, and the text of any other
module _ (w : List ℕ) (n : ℕ) where
  held : n < 2 ^ 63 → integer (to_z w64 n) ≡ positive_value w n
  held h = search rules

  great : 2 ^ 63 ≤ n → big w ≡ positive_value w n
  great h = search rules

  minus-none : n ≡ 0 → integer (pos 0) ≡ negative_value w n
  minus-none h = search rules

  minus-held : n ≢ 0 → n ≤ 2 ^ 63 → integer (to_z w64 (of_z w64 (lib.IntN.negsuc 0 -ℤ to_z w64 (n - 1)))) ≡ negative_value w n
  minus-held some h = search rules

  minus-great : 2 ^ 63 < n → big w ≡ negative_value w n
  minus-great h = search rules

pub returns-then-magnitude-lt-INT_LIMIT : goal.returns-then-magnitude-lt-INT_LIMIT
returns-then-magnitude-lt-INT_LIMIT c =
    let a = c.args in
    held (slice_range a.bytes.now a.from a.end) a.magnitude c.if-magnitude-lt-INT_LIMIT.true
    ∙ integer_value-positive a.bytes.now a.from a.at a.end a.magnitude c.if-from-at.true c.requires.int_part
    c.requires.magnitude

pub returns-then-magnitude-eq0 : goal.returns-then-magnitude-eq0
returns-then-magnitude-eq0 c =
    let a = c.args in
    minus-none (slice_range a.bytes.now a.from a.end) a.magnitude c.if-magnitude-eq0.true
    ∙ integer_value-negative a.bytes.now a.from a.at a.end a.magnitude c.requires.minus c.if-from-at.false
    c.requires.int_part c.requires.magnitude

pub returns-then-magnitude-le-INT_LIMIT : goal.returns-then-magnitude-le-INT_LIMIT
returns-then-magnitude-le-INT_LIMIT c =
    let a = c.args in
    minus-held (slice_range a.bytes.now a.from a.end) a.magnitude c.if-magnitude-eq0.false
    c.if-magnitude-le-INT_LIMIT.true
    ∙ integer_value-negative a.bytes.now a.from a.at a.end a.magnitude c.requires.minus c.if-from-at.false
    c.requires.int_part c.requires.magnitude

pub ascii_text-requires : goal.ascii_text-requires
ascii_text-requires c =
    IsAscii-integer c.args.bytes.now c.args.from c.args.at c.args.end c.requires.minus c.requires.int_part

pub returns : goal.returns
returns c =
    let a = c.args in
    let text = slice_range a.bytes.now a.from a.end in
    ap big c.ascii_text.ensures
    ∙ elim c.if-from-at.branch [
      | then-from-at+else-magnitude-lt-INT_LIMIT w ↦ great text a.magnitude w.if-magnitude-lt-INT_LIMIT.false
          ∙ integer_value-positive a.bytes.now a.from a.at a.end a.magnitude w.if-from-at.true c.requires.int_part
          c.requires.magnitude
      | else-from-at+else-magnitude-eq0+else-magnitude-le-INT_LIMIT w ↦ minus-great text a.magnitude
          w.if-magnitude-le-INT_LIMIT.false
          ∙ integer_value-negative a.bytes.now a.from a.at a.end a.magnitude c.requires.minus w.if-from-at.false
          c.requires.int_part c.requires.magnitude
    ]
