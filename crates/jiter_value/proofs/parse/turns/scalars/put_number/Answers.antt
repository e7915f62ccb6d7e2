use Rattle.jiter_value.proofs.Words.{◌≡◌, ◌∙◌, false, refl, ap, arith, slice_range, nat_lt, pos, if◌then◌else◌, integer}
use Rattle.jiter_value.proofs.Words.{int, float}
use Rattle.std.proofs.Common.{of_z, to_z, to_z-of_z, w64}
use Rattle.jiter_scan.specs.Number.{minus_of}
use Rattle.jiter_scan.specs.Number as number
use Rattle.jiter_scan.proofs.NumberBytes.{IsAscii-decimal, IsMinusTo-le}
use Rattle.jiter_value.proofs.BorrowedTexts.{range-lies}
use Rattle.jiter_scan.proofs.FastNumberValues.{short-signed, short-signed_float}
use Rattle.jiter_value.proofs.Placed.{put-at, number-read}
use Rattle.jiter_value.proofs.Views.{view_float, view_int}
use Rattle.jiter_value.proofs.parse.turns.scalars.put_number.Goals as goal

pub ascii_text-requires : goal.ascii_text-requires
ascii_text-requires g c =
    IsAscii-decimal c.args.bytes.now c.args.at c.skip_minus-from.result c.in-Float.end
    c.skip_minus-from.ensures.minus
    c.in-Float.ensures.decimal

pub store_borrowed-requires : goal.store_borrowed-requires
store_borrowed-requires g c =
    let a = c.args in
    let found = c.in-Float.ensures in
    λ k. (
      (refl, tt),
      (
        c.requires.texts,
        range-lies a.bytes.now a.at c.in-Float.end _
            (omega (
              arith,
              found.some,
              IsMinusTo-le a.bytes.now a.at c.skip_minus-from.result
                  c.skip_minus-from.ensures.minus,
            ))
            found.within c.ascii_text.ensures,
      ),
    )

pub returns-in-Int-clause-put : goal.returns-in-Int-clause-put
returns-in-Int-clause-put g c = λ _.
    let a = c.args in
    let t = a.bytes.now in
    let from = c.skip_minus-from.result in
    let minus = c.skip_minus-from.ensures.minus in
    let found = c.in-Int.ensures in
    let n = c.put_reserved.ensures in
    let z = if nat_lt a.at from then minus_of c.in-Int.magnitude else pos c.in-Int.magnitude in
    let kept : to_z w64 (of_z w64 c.signed.result) ≡ c.signed.result = grind (arith, to_z-of_z) in
    put-at _ (int z) (view_int _ ∙ ap int (kept ∙ c.signed.ensures)) c.requires.at_value.0 c.requires.at_value.1 n.value n.stands n.nest n.held refl
    (omega (arith, found.some, IsMinusTo-le t a.at from minus)) found.within
    (λ p levels. number-read g.T.StringStorage.policy p t a.at c.in-Int.end levels (integer z) c.requires.begins
    (short-signed t p.allow_inf_nan a.at c.in-Int.end from c.in-Int.magnitude minus found))

pub returns-in-Ok-clause-put : goal.returns-in-Ok-clause-put
returns-in-Ok-clause-put g c = λ _.
    let a = c.args in
    let t = a.bytes.now in
    let e = c.in-Float.end in
    let from = c.skip_minus-from.result in
    let minus = c.skip_minus-from.ensures.minus in
    let found = c.in-Float.ensures in
    let n = c.put_reserved-in-Ok.ensures in
    let policy = g.T.StringStorage.policy in
    put-at _ (float (policy.text (record { owned = false; bytes = slice_range t a.at e })))
    (view_float _
    ∙ ap float (c.in-Ok.ensures.value ∙ ap (λ w. policy.text (record { owned = false; bytes = w }))
    c.ascii_text.ensures))
    c.requires.at_value.0 c.requires.at_value.1 n.value n.stands n.nest n.held refl
    (omega (arith, found.some, IsMinusTo-le t a.at from minus)) found.within
    (λ p levels. number-read g.T.StringStorage.policy p t a.at e levels (number.float (slice_range t a.at e)) c.requires.begins
    (short-signed_float t p.allow_inf_nan a.at e from minus found))
