use Rattle.std.proofs.Common.{is_ok}
use Rattle.sc_print.proofs.Lines.{with_code}
use Rattle.sc_print.proofs.error.error_line.Goals as goal

pub returns-in-E2 : goal.returns-in-E2
returns-in-E2 c = with_code (is_ok c.fixed-in-E2.result) c.args.out.now.items _ c.args.line _ _ c.in-E2.is c.fixed-in-E2.ensures

pub returns-in-E3 : goal.returns-in-E3
returns-in-E3 c = with_code (is_ok c.fixed-in-E3.result) c.args.out.now.items _ c.args.line _ _ c.in-E3.is c.fixed-in-E3.ensures

pub returns-in-E4 : goal.returns-in-E4
returns-in-E4 c = with_code (is_ok c.fixed-in-E4.result) c.args.out.now.items _ c.args.line _ _ c.in-E4.is c.fixed-in-E4.ensures

pub returns-in-E5 : goal.returns-in-E5
returns-in-E5 c = with_code (is_ok c.fixed-in-E5.result) c.args.out.now.items _ c.args.line _ _ c.in-E5.is c.fixed-in-E5.ensures

pub returns-in-E6 : goal.returns-in-E6
returns-in-E6 c = with_code (is_ok c.fixed-in-E6.result) c.args.out.now.items _ c.args.line _ _ c.in-E6.is c.fixed-in-E6.ensures

pub returns-in-E7 : goal.returns-in-E7
returns-in-E7 c = with_code (is_ok c.fixed-in-E7.result) c.args.out.now.items _ c.args.line _ _ c.in-E7.is c.fixed-in-E7.ensures

pub returns-in-E9 : goal.returns-in-E9
returns-in-E9 c = with_code (is_ok c.fixed-in-E9.result) c.args.out.now.items _ c.args.line _ _ c.in-E9.is c.fixed-in-E9.ensures

pub returns-in-E10 : goal.returns-in-E10
returns-in-E10 c = with_code (is_ok c.fixed-in-E10.result) c.args.out.now.items _ c.args.line _ _ c.in-E10.is c.fixed-in-E10.ensures

pub returns-in-E11 : goal.returns-in-E11
returns-in-E11 c = with_code (is_ok c.fixed-in-E11.result) c.args.out.now.items _ c.args.line _ _ c.in-E11.is c.fixed-in-E11.ensures

pub returns-in-E12 : goal.returns-in-E12
returns-in-E12 c = with_code (is_ok c.fixed-in-E12.result) c.args.out.now.items _ c.args.line _ _ c.in-E12.is c.fixed-in-E12.ensures

pub returns-in-E13 : goal.returns-in-E13
returns-in-E13 c = with_code (is_ok c.fixed-in-E13.result) c.args.out.now.items _ c.args.line _ _ c.in-E13.is c.fixed-in-E13.ensures

pub returns-in-E14 : goal.returns-in-E14
returns-in-E14 c = with_code (is_ok c.fixed-in-E14.result) c.args.out.now.items _ c.args.line _ _ c.in-E14.is c.fixed-in-E14.ensures
