-- Each arm is a call at a literal width, which what the arm knows of k turns into k.
use mathlib.Core.Path.{◌≡◌}
use native.Mathlib.Omega.{arith}
use Rattle.rows.proofs.pass.matvec_combine_rows.Goals as goal
use Rattle.rows.proofs.pass.matvec_combine_rows.Goals.{In_default}

-- the last arm's width
last : (c : In_default) → c.args.own.width ≡ 15
last c = omega (arith, c.requires.pass.width)

pub returns-in-9 : goal.returns-in-9
returns-in-9 c = rw c.in-9.is c.combine_rows.ensures

pub returns-in-10 : goal.returns-in-10
returns-in-10 c = rw c.in-10.is c.combine_rows-in-10.ensures

pub returns-in-11 : goal.returns-in-11
returns-in-11 c = rw c.in-11.is c.combine_rows-in-11.ensures

pub returns-in-12 : goal.returns-in-12
returns-in-12 c = rw c.in-12.is c.combine_rows-in-12.ensures

pub returns-in-13 : goal.returns-in-13
returns-in-13 c = rw c.in-13.is c.combine_rows-in-13.ensures

pub returns-in-14 : goal.returns-in-14
returns-in-14 c = rw c.in-14.is c.combine_rows-in-14.ensures

pub returns-in_default : goal.returns-in_default
returns-in_default c = rw (last (goal.at.returns-in_default c).In_default) c.combine_rows-in_default.ensures
