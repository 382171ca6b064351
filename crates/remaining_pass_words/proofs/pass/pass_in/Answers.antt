-- `remaining_pass_words::pass::pass_in` meets its contract.
use Rattle.remaining_pass_words.proofs.Passes.{latin-passed, serifs-ready, serifs-passed, others-passed}
use borrow.Author.Rules.{rules}
use Rattle.remaining_pass_words.proofs.pass.pass_in.Goals as goal

pub returns-in-Default : goal.returns-in-Default
returns-in-Default c =
    latin-passed c.args.group c.args.start c.args.words.now c.in-Default.is c.visit_all.ensures

pub returns-then-past-eq0 : goal.returns-then-past-eq0
returns-then-past-eq0 c =
    serifs-passed c.args.group c.args.start c.args.words.now c.in_default.is c.visit_all-past.ensures c.if-past-eq0.true

pub visit_all-requires-2 : goal.visit_all-requires-2
visit_all-requires-2 c =
    serifs-ready c.args.group c.args.start c.args.words.now c.in_default.is c.visit_all-past.ensures

pub returns : goal.returns
returns c =
    others-passed c.args.group c.args.start c.args.words.now c.in_default.is c.visit_all-past.ensures c.if-past-eq0.false
    c.visit_all-2.ensures
