-- Every exported function determines its answer and what everything lent holds: two outcomes that its promise allows coincide.
use mathlib.Core.Path.{◌≡◌, sym, ◌∙◌}
use mathlib.Core.List.{List}
use Prim.Native.Nat.{ℕ}
use lib.Ieee.{Float}
use lib.IntN.{ℤ}
use Rattle.khsaemudol.specs.Version.{IsVersion}
use Rattle.middle.specs.Middle.{ComputesMidPos, ComputesMidDelta}
use Rattle.weak.specs.Weak.{Outcome}
use Rattle.weak.proofs.Determined as Weak
use Rattle.weak_references.specs.References.{Remembered, AlignedWith}
use Rattle.weak_references.proofs.Equal as References
use Rattle.weak_drag.specs.Drag.{Dragged}
use Rattle.weak_drag.proofs.Drags as Drag
use Rattle.edge_points.specs.EdgePoints.{Points}
use Rattle.edge_points_words.specs.Align.{EdgePointsLent}
use Rattle.weak_catalogue.specs.Catalogue.{Catalogued}
use Rattle.weak_catalogue.proofs.Determined as Whole
use Rattle.build.specs.declared.numbers.Thresholds.{Thresholds}
use Rattle.words_call.proofs.Determined.{lent-determined}
use Rattle.log_frame.specs.Frame.{Frame}
use Rattle.log_frame_words.specs.Lent.{WritesLent, ReadsLent}
use Rattle.link_words.specs.Lent.{LinkingLent}
use Rattle.build_words.specs.Lent.{BuiltLent}
use Rattle.zones_words.specs.Lent.{ZonesLent}
use Rattle.stem_cjk_words.specs.Lent.{StemLent}
use Rattle.stems_words.specs.Lent.{StemsLent}
use Rattle.zones_stems_words.specs.Lent.{JoinedLent}
use Rattle.place_words.specs.Lent.{LinkedLent, SerifLent, AdjustLent, BoundsLent}
use Rattle.lowercase_m_words.specs.Lent.{MLent}
use Rattle.path.specs.Lending.{StepLent}
use Rattle.path.proofs.Determined as Step
use Rattle.path_lay.specs.Laying.{Lists}
use Rattle.path_whole.specs.Writing.{WritesPath}
use Rattle.path_whole.proofs.Determined as Path
use Rattle.mend_words.specs.Mending.{MendedLent}
use Rattle.turn_words.specs.Lent.{TurnedLent}
use Rattle.pack_words.specs.Pack.{PackedLent}
use Rattle.gaps_words.specs.Find.{Places, GapsLent}
use Rattle.remaining_words.specs.Lent.{RemainingLent}
use Rattle.strong_words.specs.Strong.{StrongLent}
use Rattle.fit.specs.Fit.{Given, Fitted, FitLent}
use Rattle.shown_count.specs.Count.{ShownLent}
use Rattle.shown_count.proofs.Determined as Shown

-- `khs_version`
pub version-determined : {r r' : ℕ} → IsVersion r → IsVersion r' → r ≡ r'
version-determined a b = a ∙ sym b

-- `khs_compute_mid_pos`
pub mid-pos-determined : (min max : ℤ) {r r' : ℤ} → ComputesMidPos min max r → ComputesMidPos min max r' → r ≡ r'
mid-pos-determined min max a b = a ∙ sym b

-- `khs_compute_mid_delta`
pub mid-delta-determined : (min max : ℤ) {r r' : ℤ} → ComputesMidDelta min max r → ComputesMidDelta min max r' → r ≡ r'
mid-delta-determined min max a b = a ∙ sym b

-- `khs_align_weak_points`
pub weak-determined : (o c : List ℤ) (t es : List ℕ) {r r' : ℕ} {now now' : List ℤ} → Outcome o c t es r now → Outcome o c t es r' now'
    → (r ≡ r') × (now ≡ now')
weak-determined o c t es {r} {r'} {now} {now'} a b = Weak.determined o c t es r r' now now' a b

-- `khs_remember_references`
pub remembered-determined :
    (t es b h : List ℕ) {r r' : ℕ} {before before' behind behind' : List ℕ}
    → Remembered t es b h r before behind → Remembered t es b h r' before' behind' → (r ≡ r') × ((before ≡ before') × (behind ≡ behind'))
remembered-determined t es b h x y = References.remembered-determined t es b h x y

-- `khs_align_with_references`
pub with-determined :
    (o c : List ℤ) (t es b h : List ℕ) {r r' : ℕ} {now now' : List ℤ} → AlignedWith o c t es b h r now → AlignedWith o c t es b h r' now'
    → (r ≡ r') × (now ≡ now')
with-determined o c t es b h x y = References.aligned-determined o c t es b h x y

-- `khs_drag_point`
pub drag-determined : (o c : List ℤ) (t es : List ℕ) (p : ℕ) {r r' : ℕ} {now now' : List ℤ} → Dragged o c t es p r now → Dragged o c t es p r' now'
    → (r ≡ r') × (now ≡ now')
drag-determined o c t es p {r} {r'} {now} {now'} a b = Drag.determined o c t es p r r' now now' a b

-- `khs_align_edge_points`
pub edge-points-determined :
    (ws es : List ℤ) (snap alone : ℤ) (ends : List ℕ) (s : Points) {r r' : ℕ} {now now' : Points}
    → EdgePointsLent ws es snap alone ends s r now → EdgePointsLent ws es snap alone ends s r' now' → (r ≡ r') × (now ≡ now')
edge-points-determined ws es snap alone ends s a b = lent-determined a b

-- `khs_align_catalogue`
pub catalogue-determined :
    (o c : List ℤ) (t es ns ks bs : List ℕ) {r r' : ℕ} {now now' : List ℤ} {rs rs' : List ℕ}
    → Catalogued o c t es ns ks bs r now rs → Catalogued o c t es ns ks bs r' now' rs' → (r ≡ r') × ((now ≡ now') × (rs ≡ rs'))
catalogue-determined o c t es ns ks bs a b = Whole.determined o c t es ns ks bs a b

-- `khs_link_segments_cjk`
pub linking-determined :
    (ws : List ℤ) (major upem scale : ℤ) {r r' : ℕ} {now now' : List ℤ}
    → LinkingLent ws major upem scale r now → LinkingLent ws major upem scale r' now' → (r ≡ r') × (now ≡ now')
linking-determined ws major upem scale a b = lent-determined a b

-- `khs_compute_edges`
pub building-determined :
    (ws room : List ℤ) (dim major group ttb scale : ℤ) (t : Thresholds) (count : ℤ) {r r' : ℕ} {now now' : List ℤ × (List ℤ × ℤ)}
    → BuiltLent ws room dim major group ttb scale t count r now → BuiltLent ws room dim major group ttb scale t count r' now' → (r ≡ r') × (now ≡ now')
building-determined ws room dim major group ttb scale t count a b = lent-determined a b

-- `khs_align_edges_to_blues`
pub zones-determined :
    (ws : List ℤ) (dim group rule : ℤ) (standards : List ℤ) (anchor : ℤ) {r r' : ℕ} {now now' : List ℤ × ℤ}
    → ZonesLent ws dim group rule standards anchor r now → ZonesLent ws dim group rule standards anchor r' now' → (r ≡ r') × (now ≡ now')
zones-determined ws dim group rule standards anchor a b = lent-determined a b

-- `khs_align_linked_edge`
pub linked-determined :
    (ws : List ℤ) (rule : ℤ) (standards : List ℤ) (base stem : ℤ) {r r' : ℕ} {now now' : List ℤ}
    → LinkedLent ws rule standards base stem r now → LinkedLent ws rule standards base stem r' now' → (r ≡ r') × (now ≡ now')
linked-determined ws rule standards base stem a b = lent-determined a b

-- `khs_align_serif_edge`
pub serif-determined : (ws : List ℤ) (base serif : ℤ) {r r' : ℕ} {now now' : List ℤ} → SerifLent ws base serif r now → SerifLent ws base serif r' now'
    → (r ≡ r') × (now ≡ now')
serif-determined ws base serif a b = lent-determined a b

-- `khs_adjust_link`
pub adjust-determined : (ws : List ℤ) (edge dir ttb : ℤ) {r r' : ℕ} {now now' : List ℤ} → AdjustLent ws edge dir ttb r now
    → AdjustLent ws edge dir ttb r' now' → (r ≡ r') × (now ≡ now')
adjust-determined ws edge dir ttb a b = lent-determined a b

-- `khs_latin_remaining_bounds`
pub bounds-determined : (ws : List ℤ) (edge : ℤ) (old : ℤ × ℤ) {r r' : ℕ} {now now' : ℤ × ℤ} → BoundsLent ws edge old r now → BoundsLent ws edge old r' now'
    → (r ≡ r') × (now ≡ now')
bounds-determined ws edge old a b = lent-determined a b

-- `khs_hint_normal_stem_cjk`
pub stem-determined :
    (ws : List ℤ) (dim adjust rule : ℤ) (standards : List ℤ) (edge edge2 delta own : ℤ) {r r' : ℕ} {now now' : List ℤ × ℤ}
    → StemLent ws dim adjust rule standards edge edge2 delta own r now → StemLent ws dim adjust rule standards edge edge2 delta own r' now'
    → (r ≡ r') × (now ≡ now')
stem-determined ws dim adjust rule standards edge edge2 delta own a b = lent-determined a b

-- `khs_align_stem_edges`
pub stems-determined :
    (ws : List ℤ) (dim group adjust ttb anchor rule : ℤ) (standards : List ℤ) (count found : ℤ) {r r' : ℕ} {now now' : List ℤ × (ℤ × ℤ)}
    → StemsLent ws dim group adjust ttb anchor rule standards count found r now → StemsLent ws dim group adjust ttb anchor rule standards count found r' now'
    → (r ≡ r') × (now ≡ now')
stems-determined ws dim group adjust ttb anchor rule standards count found a b = lent-determined a b

-- `khs_align_blues_and_stems`
pub joined-determined :
    (ws : List ℤ) (dim group adjust ttb rule : ℤ) (standards : List ℤ) (count found : ℤ) {r r' : ℕ} {now now' : List ℤ × (ℤ × ℤ)}
    → JoinedLent ws dim group adjust ttb rule standards count found r now → JoinedLent ws dim group adjust ttb rule standards count found r' now'
    → (r ≡ r') × (now ≡ now')
joined-determined ws dim group adjust ttb rule standards count found a b = lent-determined a b

-- `khs_hint_lowercase_m`
pub m-determined : (ws : List ℤ) (group : ℤ) {r r' : ℕ} {now now' : List ℤ} → MLent ws group r now → MLent ws group r' now' → (r ≡ r') × (now ≡ now')
m-determined ws group a b = lent-determined a b

-- `khs_path_step`
pub step-determined :
    (xs ys : List ℤ) (marks es : List ℕ) (cursor kind : ℕ) (places : List Float) (next : ℕ) {r r' d d' n n' : ℕ} {l l' : List Float}
    → StepLent xs ys marks es cursor kind places next r d l n → StepLent xs ys marks es cursor kind places next r' d' l' n'
    → (r ≡ r') × (d ≡ d') × (l ≡ l') × (n ≡ n')
step-determined xs ys marks es cursor kind places next a b = Step.lent-determined xs ys marks es cursor kind places next a b

-- `khs_path`
pub path-determined : (xs ys : List ℤ) (marks es : List ℕ) (l : Lists) {r r' : ℕ} {m m' : Lists} → WritesPath xs ys marks es l r m
    → WritesPath xs ys marks es l r' m' → (r ≡ r') × (m ≡ m')
path-determined xs ys marks es l a b = Path.determined xs ys marks es l a b

-- `khs_write_frame`
pub write-frame-determined :
    (f : Frame) (line : List ℕ) (digits : ℕ) {r r' : ℕ} {now now' : List ℕ × ℕ} → WritesLent f line digits r now → WritesLent f line digits r' now'
    → (r ≡ r') × (now ≡ now')
write-frame-determined f line digits a b = lent-determined a b

-- `khs_read_frame`
pub read-frame-determined :
    (line : List ℕ) (rooms : Frame) (points contours : ℕ) {r r' : ℕ} {now now' : Frame × (ℕ × ℕ)}
    → ReadsLent line rooms points contours r now → ReadsLent line rooms points contours r' now' → (r ≡ r') × (now ≡ now')
read-frame-determined line rooms points contours a b = lent-determined a b

-- `khs_turn_over`
pub turning-determined : (ws es : List ℤ) {r r' : ℕ} {now now' : List ℤ × List ℤ} → TurnedLent ws es r now → TurnedLent ws es r' now' → (r ≡ r') × (now ≡ now')
turning-determined ws es a b = lent-determined a b

-- `khs_pack_axis`
pub packing-determined : (ws es : List ℤ) (count : ℤ) {r r' : ℕ} {now now' : List ℤ × (List ℤ × ℤ)} → PackedLent ws es count r now
    → PackedLent ws es count r' now' → (r ≡ r') × (now ≡ now')
packing-determined ws es count a b = lent-determined a b

-- `khs_lost_gaps`
pub gaps-determined : (ws : List ℤ) (least linked : ℤ) (old : Places) {r r' : ℕ} {now now' : Places} → GapsLent ws least linked old r now
    → GapsLent ws least linked old r' now' → (r ≡ r') × (now ≡ now')
gaps-determined ws least linked old a b = lent-determined a b

-- `khs_mend`
pub mending-determined :
    (ws es room : List ℤ) (count : ℤ) {r r' : ℕ} {now now' : List ℤ × (List ℤ × (List ℤ × ℤ))} → MendedLent ws es room count r now
    → MendedLent ws es room count r' now' → (r ≡ r') × (now ≡ now')
mending-determined ws es room count a b = lent-determined a b

-- `khs_align_remaining_edges`
pub remaining-determined :
    (ws : List ℤ) (dim group count anchor found : ℤ) {r r' : ℕ} {now now' : List ℤ × ℤ}
    → RemainingLent ws dim group count anchor found r now → RemainingLent ws dim group count anchor found r' now' → (r ≡ r') × (now ≡ now')
remaining-determined ws dim group count anchor found a b = lent-determined a b

-- `khs_align_strong_points`
pub strong-determined :
    (ws f o c : List ℤ) (t w : List ℕ) {r r' : ℕ} {now now' : List ℤ × List ℕ} → StrongLent ws f o c t w r now → StrongLent ws f o c t w r' now'
    → (r ≡ r') × (now ≡ now')
strong-determined ws f o c t w a b = lent-determined a b

-- `khs_count_shown`
pub shown-determined :
    (xs ys : List ℤ) (marks es : List ℕ) (m : ℤ) (blacks : ℕ) (number : ℤ) {r r' b b' : ℕ} {n n' : ℤ}
    → ShownLent xs ys marks es m blacks number r b n → ShownLent xs ys marks es m blacks number r' b' n' → (r ≡ r') × (b ≡ b') × (n ≡ n')
shown-determined xs ys marks es m blacks number a b = Shown.lent-determined xs ys marks es m blacks number a b

-- `khs_fit_axis`
pub fit-determined : (ns : List ℤ) (g : Given) (l : Fitted) {r r' : ℕ} {now now' : Fitted} → FitLent ns g l r now → FitLent ns g l r' now'
    → (r ≡ r') × (now ≡ now')
fit-determined ns g l a b = lent-determined a b
