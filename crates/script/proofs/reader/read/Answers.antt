use Rattle.std.proofs.Common.{Ok, arith, rules}
use Rattle.script.proofs.Scripts.{grammatical, part_stands, part_near}
use Rattle.script.proofs.reader.read.Goals as goal

pub returns-in_err-head-clause-grammar : goal.returns-in_err-head-clause-grammar
returns-in_err-head-clause-grammar c = grammatical c.args.script.now c.from_residual.result (search rules)

pub returns-in_err-head-clause-part : goal.returns-in_err-head-clause-part
returns-in_err-head-clause-part c = part_stands c.args.script.now c.from_residual.result (search rules)

pub returns-in_err-head-clause-near : goal.returns-in_err-head-clause-near
returns-in_err-head-clause-near c = part_near c.args.script.now c.from_residual.result (omega arith) (search rules)

pub returns-in_err-check_calls-clause-grammar : goal.returns-in_err-check_calls-clause-grammar
returns-in_err-check_calls-clause-grammar c = grammatical c.args.script.now c.from_residual-in_err-check_calls.result (search rules)

pub returns-in_err-check_calls-clause-part : goal.returns-in_err-check_calls-clause-part
returns-in_err-check_calls-clause-part c = part_stands c.args.script.now c.from_residual-in_err-check_calls.result (search rules)

pub returns-in_err-check_calls-clause-near : goal.returns-in_err-check_calls-clause-near
returns-in_err-check_calls-clause-near c = part_near c.args.script.now c.from_residual-in_err-check_calls.result (omega arith) (search rules)

pub returns-clause-grammar : goal.returns-clause-grammar
returns-clause-grammar c = grammatical c.args.script.now (Ok (record { head = c.in_ok-head.head; skipped = c.check_calls.new.self.skipped })) (search rules)
