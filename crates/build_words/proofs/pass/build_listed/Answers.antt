-- `build_words::pass::build_listed` meets its contract.
use mathlib.Core.Path.{◌≡◌, refl, sym, ap, subst, ◌∙◌}
use lib.IntN.{ℤ}
use mir.Syntax.{w32}
use mir.Val.{to_z, of_z}
use Rattle.signed.proofs.Reading.{back}
use Rattle.words.specs.Word.{written, joined}
use Rattle.words.specs.Edge.{edges_in}
use Rattle.words_segment.proofs.Wholes.{pos-short}
use Rattle.build_words.specs.Edges.{listed_words, Room}
use Rattle.build_words.proofs.Built.{room-there, made-long, made-whole, rings-there, properties-ready, built_in}
use Rattle.build_words.proofs.pass.build_listed.Goals as goal

pub write_edges-requires : goal.write_edges-requires
write_edges-requires c =
    let scale-is : to_z w32 (of_z w32 c.args.rules.scale) ≡ c.args.rules.scale = back w32 c.args.rules.scale c.struct_told-1.given.1.1.1.0.1 in
    subst (λ (z : ℤ). Room c.args.segments.now z c.args.first.now (edges_in c.args.room.now)) (sym scale-is) (room-there c.requires)

pub mark_in-requires : goal.mark_in-requires
mark_in-requires c =
    let scale-is : to_z w32 (of_z w32 c.args.rules.scale) ≡ c.args.rules.scale = back w32 c.args.rules.scale c.struct_told-1.given.1.1.1.0.1 in
    let wrote : c.write_edges.new.room
    ≡ written c.args.room.now 0
    (joined (listed_words c.args.segments.now c.args.rules.scale c.args.first.now
    c.args.last.now)
    (edges_in c.args.room.now)) = let a = c.args in
    c.write_edges.ensures
    ∙ ap (λ (z : ℤ). written a.room.now 0 (joined (listed_words a.segments.now z a.first.now a.last.now) (edges_in a.room.now)))
    scale-is in
    (c.requires.whole, rings-there c.requires wrote _ refl)

pub properties_in-requires : goal.properties_in-requires
properties_in-requires c =
    let scale-is : to_z w32 (of_z w32 c.args.rules.scale) ≡ c.args.rules.scale = back w32 c.args.rules.scale c.struct_told-1.given.1.1.1.0.1 in
    let wrote : c.write_edges.new.room
    ≡ written c.args.room.now 0
    (joined (listed_words c.args.segments.now c.args.rules.scale c.args.first.now
    c.args.last.now)
    (edges_in c.args.room.now)) = let a = c.args in
    c.write_edges.ensures
    ∙ ap (λ (z : ℤ). written a.room.now 0 (joined (listed_words a.segments.now z a.first.now a.last.now) (edges_in a.room.now)))
    scale-is in
    let after = c.mark_in.ensures in
    (made-whole c.requires wrote, properties-ready c.requires wrote refl after, λ i h. pos-short _ i after.whole h)

pub shape_of-segments : goal.shape_of-segments
shape_of-segments c = c.mark_in.ensures.long

pub shape_of-room : goal.shape_of-room
shape_of-room c =
    let scale-is : to_z w32 (of_z w32 c.args.rules.scale) ≡ c.args.rules.scale = back w32 c.args.rules.scale c.struct_told-1.given.1.1.1.0.1 in
    let wrote : c.write_edges.new.room
    ≡ written c.args.room.now 0
    (joined (listed_words c.args.segments.now c.args.rules.scale c.args.first.now
    c.args.last.now)
    (edges_in c.args.room.now)) = let a = c.args in
    c.write_edges.ensures
    ∙ ap (λ (z : ℤ). written a.room.now 0 (joined (listed_words a.segments.now z a.first.now a.last.now) (edges_in a.room.now)))
    scale-is in
    c.properties_in.ensures.long ∙ made-long c.requires wrote

pub returns : goal.returns
returns c =
    let scale-is : to_z w32 (of_z w32 c.args.rules.scale) ≡ c.args.rules.scale = back w32 c.args.rules.scale c.struct_told-1.given.1.1.1.0.1 in
    let wrote : c.write_edges.new.room
    ≡ written c.args.room.now 0
    (joined (listed_words c.args.segments.now c.args.rules.scale c.args.first.now
    c.args.last.now)
    (edges_in c.args.room.now)) = let a = c.args in
    c.write_edges.ensures
    ∙ ap (λ (z : ℤ). written a.room.now 0 (joined (listed_words a.segments.now z a.first.now a.last.now) (edges_in a.room.now)))
    scale-is in
    built_in c.requires wrote refl c.mark_in.ensures c.properties_in.ensures
