-- The bytes that the constants of `Peek` are peeks of.
use Rattle.std.specs.Prelude.{◌≡◌, refl}
use Rattle.jiter_scan.specs.Ascii as ascii
use Rattle.jiter.specs.declared.peek.TheConstants.Peek as of

-- the byte of each constant, in the order of the source
pub constants-are
    : (of.Null.0 ≡ ascii.small_n)
    × (of.True.0 ≡ ascii.small_t)
    × (of.False.0 ≡ ascii.small_f)
    × (of.Minus.0 ≡ ascii.minus)
    × (of.Infinity.0 ≡ ascii.capital_i)
    × (of.NaN.0 ≡ ascii.capital_n)
    × (of.String.0 ≡ ascii.quote)
    × (of.Array.0 ≡ ascii.left_bracket)
    × (of.Object.0 ≡ ascii.left_brace)
constants-are = (refl, refl, refl, refl, refl, refl, refl, refl, refl)
