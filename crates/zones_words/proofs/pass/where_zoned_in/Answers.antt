-- `zones_words::pass::where_zoned_in` meets its contract.
use Rattle.zones_words.proofs.Passes.{where-zoned, where-none}
use borrow.Author.Rules.{rules}
use Rattle.zones_words.proofs.pass.where_zoned_in.Goals as goal

pub returns-then-has_blues : goal.returns-then-has_blues
returns-then-has_blues c =
    let p = c in
    let t = p in
    let h = t in
    let s = h in
    where-zoned s.args.dim s.args.group s.args.rule s.args.standards.now s.args.words.now h.has_blues.ensures t.if-has_blues.true
    p.zones_in.ensures

pub returns : goal.returns
returns c =
    let h = c in
    let s = h in
    where-none s.args.dim s.args.group s.args.rule s.args.standards.now s.args.words.now h.has_blues.ensures c.if-has_blues.false
    s.requires.whole.0
