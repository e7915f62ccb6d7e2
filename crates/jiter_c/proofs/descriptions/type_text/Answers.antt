use Rattle.std.proofs.Common.{refl, arith}
use Rattle.jiter.specs.Cause.{ValueType}
use Rattle.jiter_c.proofs.Describing.{type-named}
use Rattle.jiter_c.proofs.descriptions.type_text.Goals as goal

pub returns-in-1 : goal.returns-in-1
returns-in-1 c = type-named c.args.number ValueType.null _ c.in-1.is refl (omega arith)

pub returns-in-2 : goal.returns-in-2
returns-in-2 c = type-named c.args.number ValueType.bool _ c.in-2.is refl (omega arith)

pub returns-in-3 : goal.returns-in-3
returns-in-3 c = type-named c.args.number ValueType.int _ c.in-3.is refl (omega arith)

pub returns-in-4 : goal.returns-in-4
returns-in-4 c = type-named c.args.number ValueType.float _ c.in-4.is refl (omega arith)

pub returns-in-5 : goal.returns-in-5
returns-in-5 c = type-named c.args.number ValueType.string _ c.in-5.is refl (omega arith)

pub returns-in-6 : goal.returns-in-6
returns-in-6 c = type-named c.args.number ValueType.array _ c.in-6.is refl (omega arith)

pub returns-in-7 : goal.returns-in-7
returns-in-7 c = type-named c.args.number ValueType.object _ c.in-7.is refl (omega arith)
