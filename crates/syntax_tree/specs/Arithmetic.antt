-- Arithmetic on whole numbers: what does not fit 32 bits is over, and undefined wins over that.
use Rattle.std.specs.Prelude.{zero, suc, ℤ, pos, negsuc, ◌+ℤ◌, ◌-ℤ◌, ◌*ℤ◌, nat_lt, Bool, true, false, if◌then◌else◌, int_div, Option, Some, None}
use Rattle.syntax_tree.specs.declared.term.Op.{Op}
use Rattle.syntax_tree.specs.declared.term.Op.TheVariants as op
use Rattle.syntax_tree.specs.declared.amount.Amount.{Amount}
use Rattle.syntax_tree.specs.declared.amount.Amount.TheVariants.{Number, Over, Undefined}

-- a number, which is over where there is none
abbrev pub or_over : Option ℤ → Amount
or_over (Some n) = Number n
or_over None = Over

-- the number fits 32 bits
abbrev pub fits : ℤ → Bool
fits (pos n) = nat_lt n 2147483648
fits (negsuc n) = nat_lt n 2147483648

-- an exact result, which is over where it does not fit
unfoldable pub fitted : ℤ → Amount
fitted z = if fits z then Number z else Over

-- the exact result; division truncates towards zero, and the remainder fits it
abbrev pub exact : Op → ℤ → ℤ → ℤ
exact op.Plus a b = a +ℤ b
exact op.Minus a b = a -ℤ b
exact op.Times a b = a *ℤ b
exact op.Divide a b = int_div a b
exact op.Remainder a b = a -ℤ (b *ℤ int_div a b)

abbrev pub is_zero : ℤ → Bool
is_zero (pos zero) = true
is_zero (pos (suc n)) = false
is_zero (negsuc n) = false

-- a division by zero
abbrev pub is_by_zero : Op → ℤ → Bool
is_by_zero op.Plus b = false
is_by_zero op.Minus b = false
is_by_zero op.Times b = false
is_by_zero op.Divide b = is_zero b
is_by_zero op.Remainder b = is_zero b

-- an operation is undefined where an operand is or where it divides by zero, and else over where an operand is
abbrev pub combined : Op → Amount → Amount → Amount
combined op Undefined b = Undefined
combined op (Number a) Undefined = Undefined
combined op Over Undefined = Undefined
combined op (Number a) (Number b) = (if is_by_zero op b then Undefined else fitted (exact op a b))
combined op Over (Number b) = (if is_by_zero op b then Undefined else Over)
combined op (Number a) Over = Over
combined op Over Over = Over
