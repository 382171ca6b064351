-- `strong_words::place::free_at` meets its contract.
use mathlib.Core.Path.{◌≡◌, sym, subst}
use mir.Syntax.{w16, w32}
use mir.Val.{to_z, of_z}
use Rattle.signed.proofs.Signed.{is, got}
use Rattle.signed.proofs.Reading.{cast-16, back-16}
use Rattle.signed.proofs.By.{by₂}
use Rattle.weak_contour.specs.Contour.{at}
use Rattle.weak_contour.specs.Steps.{Coordinate}
use Rattle.words_call.specs.Lent.{edges_of}
use Rattle.strong.specs.Strong.{place_of}
use borrow.Author.Rules.{rules}
use Rattle.strong_words.proofs.place.free_at.Goals as goal

pub overflow_cast-fonts : goal.overflow_cast-fonts
overflow_cast-fonts c = let a = c.args in cast-16 (at a.fonts.now a.i) c.place_in-arg-1.given

pub place_in-requires : goal.place_in-requires
place_in-requires c =
    let original : to_z w32 (of_z w32 (at c.args.originals.now c.args.i)) ≡ at c.args.originals.now c.args.i =
    is (got w32 (at c.args.originals.now c.args.i) c.place_in-arg-2-1.given) in
    let p = c.requires in (p.0, p.1, subst Coordinate (sym original) (p.4 c.args.i))

pub returns : goal.returns
returns c =
    let font : to_z w32 (of_z w32 (to_z w16 (of_z w16 (at c.args.fonts.now c.args.i)))) ≡ at c.args.fonts.now c.args.i =
    back-16 (at c.args.fonts.now c.args.i) c.place_in-arg-1.given in
    let original : to_z w32 (of_z w32 (at c.args.originals.now c.args.i)) ≡ at c.args.originals.now c.args.i =
    is (got w32 (at c.args.originals.now c.args.i) c.place_in-arg-2-1.given) in
    by₂ (place_of (edges_of c.args.words.now)) c.place_in.ensures font original
