-- Which words of the edges blue zones can change: position, mark, flags and zone; with a refusal none.
use mathlib.Core.Path.{refl}
use mathlib.Core.List.{List}
use Prim.Native.Nat.{ℕ}
use lib.Dec.{ltb}
use lib.IntN.{ℤ}
use Rattle.axis.specs.declared.kinds.Direction.TheVariants as Directions
use Rattle.axis.specs.Changes.{position, zone}
use Rattle.zones.specs.Pass.{blues_marks}
use Rattle.zones.proofs.Changed as Blues
use Rattle.words.specs.Field.{dimension_of, rule_of, group_of}
use Rattle.words.specs.Edge.{flat_axis}
use Rattle.words_call.specs.Lent.{choices}
use Rattle.words_call.specs.Kept.{KeptBut, of_edges, is_one_of, zone_words}
use Rattle.words_call.proofs.Kept.{edges-left, lent-first}
use Rattle.words_call.proofs.Extents.{wherever-words}
use Rattle.zones_words.specs.Lent.{zones_anchored, ZonesLent}

-- blue zones: positions, marks, flags and zones of edges
pub zones-kept : (ws : List ℤ) (dim group rule : ℤ) (standards : List ℤ) (anchor : ℤ) {r : ℕ} {now : List ℤ} {found : ℤ}
    → ZonesLent ws dim group rule standards anchor r (now, found)
    → KeptBut (of_edges (λ (i : ℕ). is_one_of zone_words)) ws now
zones-kept ws dim group rule standards anchor l =
    let axis = flat_axis ws (dimension_of dim) Directions.None in
    edges-left (λ (i : ℕ). is_one_of zone_words) ws (choices dim group rule) (dimension_of dim) Directions.None (zones_anchored ws dim group rule standards).axis
    (lent-first l)
    (λ e. wherever-words (λ (i : ℕ). ltb i axis.len) (zone blues_marks) axis _ (Blues.changed axis (rule_of rule) standards (group_of group) refl).only)
