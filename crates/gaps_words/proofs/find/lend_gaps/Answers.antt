-- `gaps_words::find::lend_gaps` meets its contract.
use native.Mathlib.Omega.{arith}
use mathlib.Core.Path.{◌≡◌, ap, ◌∙◌}
use mathlib.Core.Bool.{true}
use Prim.Native.Nat.{◌%◌}
use lib.IntN.{pos}
use mir.Syntax.{w32}
use Rattle.signed.proofs.Signed.{is}
use Rattle.refusals.specs.Refusal.{bad_parameter, or_refused}
use Rattle.refusals.specs.Outcome.{answer_of}
use Rattle.refusals.proofs.Outcomes.{exit-answer, number-above}
use Rattle.axis.specs.Limits.{most_units}
use Rattle.axis.specs.Refusals.{inside}
use Rattle.gaps.specs.Answer.{Gaps, found_of}
use Rattle.gaps.specs.Gaps.{found_in}
use Rattle.words.specs.Field.{choice_of, link_word}
use Rattle.words.proofs.Fields.{kept}
use Rattle.words_shape.specs.Shape.{is_in, choice}
use Rattle.words_call.specs.Lent.{edges_of}
use Rattle.words_call.proofs.Counting.{count-is}
use Rattle.words_edge_test.proofs.Answers.{own-required}
use Rattle.words_edge_test.proofs.Calls.{Ready}
use Rattle.gaps_words.specs.Find.{Places}
use Rattle.gaps_words.proofs.Search.{few-found}
use Rattle.gaps_words.proofs.Lending.{gaps-ready, gaps-refused, gaps-done}
use Rattle.gaps_words.proofs.find.lend_gaps.Goals as goal

pub returns-in_err-edges_test : goal.returns-in_err-edges_test
returns-in_err-edges_test c =
    let answer = exit-answer _ _ c.from_residual.ensures.1 in
    let old : Places = let a = c.args in (a.count.now, (a.first.now, (a.second.now, (a.before.now, (a.after.now, (a.stems.now, a.not_done.now)))))) in
    let own_is : answer_of c.require-own.result ≡ or_refused 0 (inside (pos 0) (pos most_units) c.args.least) bad_parameter =
    own-required c.require-own.ensures (c.is_inside.ensures ∙ ap (inside (pos 0) (pos most_units)) (is c.ranges.least)) in
    let choice-is : c.is_in.result ≡ is_in choice c.args.linked = c.is_in.ensures ∙ ap (is_in choice) (is c.ranges.linked) in
    gaps-refused c.args.edges.now c.args.least c.args.linked old own_is choice-is (answer ∙ c.in_err-edges_test.ensures) (rw answer (number-above _))

pub find_in-found-requires : goal.find_in-found-requires
find_in-found-requires c =
    let old : Places = let a = c.args in (a.count.now, (a.first.now, (a.second.now, (a.before.now, (a.after.now, (a.stems.now, a.not_done.now)))))) in
    let own_is : answer_of c.require-own.result ≡ or_refused 0 (inside (pos 0) (pos most_units) c.args.least) bad_parameter =
    own-required c.require-own.ensures (c.is_inside.ensures ∙ ap (inside (pos 0) (pos most_units)) (is c.ranges.least)) in
    let choice-is : c.is_in.result ≡ is_in choice c.args.linked = c.is_in.ensures ∙ ap (is_in choice) (is c.ranges.linked) in
    let allowed : Ready c.args.edges.now (answer_of c.require-own.result) true true =
    gaps-ready c.args.edges.now c.args.least c.args.linked old own_is choice-is c.in_ok-edges_test.ensures (omega arith) in
    (allowed.whole, allowed.axis)

pub returns : goal.returns
returns c =
    let old : Places = let a = c.args in (a.count.now, (a.first.now, (a.second.now, (a.before.now, (a.after.now, (a.stems.now, a.not_done.now)))))) in
    let own_is : answer_of c.require-own.result ≡ or_refused 0 (inside (pos 0) (pos most_units) c.args.least) bad_parameter =
    own-required c.require-own.ensures (c.is_inside.ensures ∙ ap (inside (pos 0) (pos most_units)) (is c.ranges.least)) in
    let choice-is : c.is_in.result ≡ is_in choice c.args.linked = c.is_in.ensures ∙ ap (is_in choice) (is c.ranges.linked) in
    let allowed : Ready c.args.edges.now (answer_of c.require-own.result) true true =
    gaps-ready c.args.edges.now c.args.least c.args.linked old own_is choice-is c.in_ok-edges_test.ensures (omega arith) in
    let found : found_of c.find_in-found.result ≡ found_in c.args.least (choice_of c.args.linked) (edges_of c.args.edges.now) =
    let k = c.choice_of.ensures ∙ ap choice_of (is c.ranges.linked) in
    c.find_in-found.ensures ∙ (λ x. found_in (is c.ranges.least x) (k x) (edges_of c.args.edges.now)) in
    let n = c.count_word-3 in
    let few = few-found c.args.least (choice_of c.args.linked) (edges_of c.args.edges.now) allowed.axis in
    let count = kept w32 n.result n.type_inv ∙ n.ensures ∙ ap (λ (g : Gaps). pos (g.count % 65536)) found ∙ count-is _ few.gaps in
    let first = kept w32 c.link_word-2.result c.link_word-2.type_inv ∙ c.link_word-2.ensures ∙ ap (λ (g : Gaps). link_word g.pair.first) found in
    let second = kept w32 c.link_word.result c.link_word.type_inv ∙ c.link_word.ensures ∙ ap (λ (g : Gaps). link_word g.pair.second) found in
    let before = kept w32 _ c.struct_told-1.given.1.1.0.1 ∙ ap (λ (g : Gaps). g.pair.before) found in
    let after = kept w32 _ c.struct_told-2-1.given.1.1.1.0.1 ∙ ap (λ (g : Gaps). g.pair.after) found in
    let stems = kept w32 c.count_word-2.result c.count_word-2.type_inv ∙ c.count_word-2.ensures
    ∙ ap (λ (g : Gaps). pos (g.stems % 65536)) found ∙ count-is _ few.stems in
    let undone = kept w32 c.count_word.result c.count_word.type_inv ∙ c.count_word.ensures
    ∙ ap (λ (g : Gaps). pos (g.not_done % 65536)) found ∙ count-is _ few.undone in
    gaps-done c.args.edges.now c.args.least c.args.linked old own_is choice-is c.in_ok-edges_test.ensures (omega arith) _
    (λ k. (count k, (first k, (second k, (before k, (after k, (stems k, undone k)))))))
