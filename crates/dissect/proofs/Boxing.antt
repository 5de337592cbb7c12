-- A map with straight edges, in its rectangle and cut up, dissects the shape that it was made of.
use Rattle.std.proofs.Common.{◌≡◌, ℕ, ◌+◌, ◌-◌, ◌%◌, ◌<◌, ◌≤◌, ◌∙◌, List, [], ◌∷◌, All, map, length, get_or, slice_index, slice_index_or, arith, subst, sym, ap, inl, inr}
use Rattle.std.specs.List.{range_with_len}
use Rattle.std.proofs.lemmas.List.Elements.{All-filter, All-get_or, All-from_get_or}
use Rattle.std.proofs.lemmas.List.FromFn.{length-range_with_len, get_or-range_with_len}
use Rattle.embedding.proofs.Rotation.{one_dart}
use Rattle.faces.specs.Planes.{PlaneModel, IsPlane, darts, vertices, head, reverse_dart, next, face_at}
use Rattle.faces.proofs.Ends.{plane_ends, seven_rules}
use Rattle.ortho_rep.specs.Shapes.{ShapeModel, angle_at, turns_at}
use Rattle.ortho_rep.specs.Edges.{is_lesser, lesser_darts}
use Rattle.ortho_rep.proofs.EdgeNumbers.{edge_total, length-lesser}
use Rattle.dissect.specs.declared.table.DartTable.{DartTable}
use Rattle.dissect.specs.DartMaps.{DartMap, IsSound, reflex_turns, no_dart}
use Rattle.dissect.specs.Tables.{dart_map_of}
use Rattle.dissect.specs.Faces.{AreWaiting, ReachesCorners}
use Rattle.dissect.specs.Paths.{HasPaths, IsConnected, IsPath}
use Rattle.dissect.specs.Surrounds.{IsEnclosed}
use Rattle.dissect.specs.Bends.{AreDirections, CountsBends, KeepsDarts, KeepsFaces}
use Rattle.dissect.specs.Steps.{angle_of}
use Rattle.dissect.specs.Chains.{AreChains}
use Rattle.dissect.specs.Labels.{IsLabelling, IsLabelled, KeepsLabelsInside}
use Rattle.dissect.proofs.SurroundedPaths.{enclosed_paths, enclosed_connected}
use Rattle.dissect.proofs.Chains.{HasChains, enclosed_chains}
use Rattle.dissect.proofs.Apart.{AreEdges, paths_back, paths_once, paths_apart}
use Rattle.dissect.specs.Boxes.{AreBoxes, HasEdge, parts_of}
use Rattle.dissect.specs.Boxed.{IsBoxed, IsEnclosedMap, ArePathsApart}
use Rattle.dissect.proofs.Keeping.{Keeps, enclosed_keeps}
use Rattle.dissect.proofs.Labelling.{part_itself, enclosed_keeps_labels}
use Rattle.dissect.proofs.Rectangles.{rectangle, bridge}
use Rattle.dissect.proofs.Through.{through}

-- what is known of the map w and of the table t that was made of it
pub record IsMade (p : PlaneModel) (shape : ShapeModel) (w : DartMap) (outside : ℕ) (t : DartTable) : Type 0 where
  pub plane : IsPlane p
  pub sound : IsSound w
  pub kept : KeepsDarts p (angle_at shape) w
  pub faces : KeepsFaces p w
  pub directions : AreDirections p (angle_at shape) (turns_at shape) w.direction
  pub counts : CountsBends p (turns_at shape) w
  pub paths : HasPaths w (darts p) (reverse_dart p) (λ d. map angle_of (turns_at shape d))
  pub chains : AreChains (vertices p) w
  pub connected : IsConnected w
  pub label : ℕ → ℕ
  pub labelling : IsLabelling (darts p) (face_at p) w label
  pub outside_in : outside < darts p
  pub outer : face_at p outside ≡ p.outer
  pub enclosed : IsEnclosed w outside (dart_map_of t)
  pub cut_sound : IsSound (dart_map_of t)
  pub done : (k : ℕ) → k < 4 → AreWaiting (dart_map_of t) (w.darts + 4 + k) []
  pub reaches : ReachesCorners (dart_map_of t)
  pub few : t.vertices ≤ w.vertices + reflex_turns w + 4
  pub small : t.darts ≤ no_dart

-- the lesser darts are darts
lesser_inside : (p : PlaneModel) → All (λ d. d < darts p) (lesser_darts p)
lesser_inside p =
    All-filter (is_lesser p) (λ d. d < darts p) (range_with_len 0 (darts p))
    (All-from_get_or (λ d. d < darts p) (range_with_len 0 (darts p)) 0
    (λ i i_in. let below : i < darts p = omega (arith, i_in, length-range_with_len 0 (darts p)) in
    omega (arith, get_or-range_with_len 0 (darts p) i 0 below, below)))

pub kept_paths : (p : PlaneModel) (shape : ShapeModel) (w : DartMap) (outside : ℕ) (t : DartTable) → IsMade p shape w outside t →
    HasPaths (dart_map_of t) (darts p) (reverse_dart p) (λ d. map angle_of (turns_at shape d))
kept_paths p shape w outside t made =
    enclosed_paths w outside (dart_map_of t) (darts p) (reverse_dart p) (λ d. map angle_of (turns_at shape d)) made.sound.tied
    made.sound.meeting.quarter made.enclosed made.paths

-- the map is that of the plane's edges
pub are_edges : (p : PlaneModel) (shape : ShapeModel) (w : DartMap) (outside : ℕ) (t : DartTable) → IsMade p shape w outside t →
    AreEdges (vertices p) (dart_map_of t) (darts p) (reverse_dart p) (λ d. map angle_of (turns_at shape d))
are_edges p shape w outside t made =
    let keeps : Keeps w (dart_map_of t) = enclosed_keeps w outside (dart_map_of t) made.enclosed in
    let ends = plane_ends p made.plane in
    let head_is : (d : ℕ) → d < darts p → (dart_map_of t).head d ≡ head p d - 1 = λ d l.
    keeps.head d (omega (arith, l, made.kept.few)) ∙ made.kept.heads d l in
    let chains : HasChains (vertices p) w = record {
      tied = made.sound.tied;
      heads = made.sound.meeting.head_in;
      few = omega (arith, made.counts.vertex_count);
      chains = made.chains;
    } in
    record {
      chains = enclosed_chains (vertices p) w outside (dart_map_of t) chains made.enclosed;
      darts_fit = made.small;
      paths = kept_paths p shape w outside t made;
      reverse_dart_in = ends.reverse_dart_in_range;
      reverse_dart_apart = ends.reverse_dart_apart;
      ends = λ d l. omega (arith, head_is d l, ends.head_from d l, ends.head_to d l);
      no_loop = λ d l same.
          let m : ℕ = reverse_dart p d in
          let m_in : m < darts p = ends.reverse_dart_in_range d l in
          let heads : head p m ≡ head p d =
          omega (arith, same, head_is d l, head_is m m_in, ends.head_from d l, ends.head_from m m_in) in
          ends.reverse_dart_apart d l
          (one_dart p.lists (seven_rules p.lists made.plane.rules) m d m_in l
          (ends.reverse_dart_tail d l ∙ sym heads ∙ ends.reverse_dart_head d l) heads);
    }

pub paths_lie_apart : (p : PlaneModel) (shape : ShapeModel) (w : DartMap) (outside : ℕ) (t : DartTable) → IsMade p shape w outside t →
    ArePathsApart p (dart_map_of t)
paths_lie_apart p shape w outside t made =
    let q : ℕ → List ℕ = λ d. map angle_of (turns_at shape d) in
    let are = are_edges p shape w outside t made in
    record {
      back = paths_back (vertices p) (dart_map_of t) (darts p) (reverse_dart p) q are;
      once = paths_once (vertices p) (dart_map_of t) (darts p) (reverse_dart p) q are;
      apart = paths_apart (vertices p) (dart_map_of t) (darts p) (reverse_dart p) q are;
    }

-- which face of the plane each dart lies in
made_labelled : (p : PlaneModel) (shape : ShapeModel) (w : DartMap) (outside : ℕ) (t : DartTable) → IsMade p shape w outside t →
    IsLabelled p (dart_map_of t) w.darts
made_labelled p shape w outside t made =
    let quarters : ℕ → List ℕ = λ d. map angle_of (turns_at shape d) in
    let more : w.darts ≤ t.darts = (enclosed_keeps w outside (dart_map_of t) made.enclosed).more in
    let inside : KeepsLabelsInside (darts p) (face_at p) w made.label outside (dart_map_of t) =
    enclosed_keeps_labels (darts p) (reverse_dart p) quarters (face_at p) w made.label outside (dart_map_of t) made.faces.face_number made.sound.tied
    made.sound.meeting.quarter (omega (arith, made.small, more)) made.small made.faces.turns.face_numbers (omega (arith, made.outside_in, made.kept.few))
    made.enclosed made.paths made.labelling in
    let outer : made.label outside ≡ p.outer =
    made.labelling.parts outside outside made.outside_in
    (part_itself w outside (reverse_dart p outside) (quarters outside) (made.paths.paths outside made.outside_in)) ∙ made.outer in
    record {
      label = inside.keeps.now;
      labelling = inside.keeps.labelling;
      outer = λ k l. inside.ring k l ∙ outer;
    }

pub map_stands : (p : PlaneModel) (shape : ShapeModel) (w : DartMap) (outside : ℕ) (t : DartTable) (old : ℕ) (edges : List ℕ)
    (paths : List (List ℕ)) → IsMade p shape w outside t → IsEnclosedMap p shape (parts_of t old edges paths)
map_stands p shape w outside t old edges paths made =
    let keeps : Keeps w (dart_map_of t) = enclosed_keeps w outside (dart_map_of t) made.enclosed in
    let e = made.enclosed in
    record {
      enclosed_map = w;
      of_shape = record {
        sound = made.sound;
        kept = made.kept;
        directions = made.directions;
        faces = made.faces;
        counts = made.counts;
        paths = made.paths;
      };
      heads = keeps.head;
      directions = keeps.direction;
      through = λ d first first' rest rest' _.
          through w outside (dart_map_of t) made.sound.tied made.sound.meeting.quarter e made.small d first first' rest rest';
      rectangle = rectangle w outside (dart_map_of t) made.sound.tied made.sound.meeting.quarter e made.done;
      right = e.right;
      right_in = e.right_in;
      turns_right = omega (arith, e.bridge.right, e.surround.angle_old e.right e.right_in);
      outer = e.same_face made.faces.face_number made.faces.turns.face_numbers ∙ made.faces.faces outside made.outside_in ∙ made.outer;
      bridge = bridge w outside (dart_map_of t) made.sound.tied made.sound.meeting.quarter e;
      labelled = made_labelled p shape w outside t made;
    }

-- each edge has its path
pub edge_path : (p : PlaneModel) (shape : ShapeModel) (w : DartMap) (outside : ℕ) (t : DartTable) (edges : List ℕ) → IsMade p shape w outside t →
    edges ≡ lesser_darts p → (e : ℕ) → e < length edges →
    (first : ℕ) × (rest : List ℕ) × IsPath (dart_map_of t) (slice_index edges e) first rest
edge_path p shape w outside t edges made lesser e e_in =
    let at : e < length (lesser_darts p) = omega (arith, e_in, ap length lesser) in
    let inside : get_or (lesser_darts p) e 0 < darts p = All-get_or (λ d. d < darts p) (lesser_darts p) e 0 at (lesser_inside p) in
    let here : slice_index edges e < darts p = subst (λ (ds : List ℕ). get_or ds e 0 < darts p) (sym lesser) inside in
    let path = (kept_paths p shape w outside t made).paths (slice_index edges e) here in
    (path.first, path.rest, path.path)

pub are_boxes : (p : PlaneModel) (shape : ShapeModel) (w : DartMap) (outside : ℕ) (t : DartTable) (old : ℕ) (edges : List ℕ)
    (paths : List (List ℕ)) → IsMade p shape w outside t → old ≡ vertices p → edges ≡ lesser_darts p →
    length paths ≡ length edges →
    ((e : ℕ) → e < length edges → (first : ℕ) (rest : List ℕ) → IsPath (dart_map_of t) (slice_index edges e) first rest →
    slice_index_or paths e [] ≡ first ∷ rest) → AreBoxes (parts_of t old edges paths)
are_boxes p shape w outside t old edges paths made all lesser count listed =
    let keeps : Keeps w (dart_map_of t) = enclosed_keeps w outside (dart_map_of t) made.enclosed in
    let done = made.done 0 (omega arith) in
    let ends = plane_ends p made.plane in
    let edge : (e : ℕ) → e < length edges → HasEdge (parts_of t old edges paths) e = λ e e_in.
    let path = edge_path p shape w outside t edges made lesser e e_in in
    record { first = path.0; rest = path.1; path = path.2 } in
    record {
      sound = made.cut_sound;
      connected = enclosed_connected w outside (dart_map_of t) made.sound.tied made.connected made.enclosed;
      faces = record {
        reaches = made.reaches;
        outside = w.darts + 4 + 0;
        outside_in = done.inside;
        around = done.outside;
        corners = λ a a_in corner. elim (done.placed a a_in corner) [
          | inl waiting ↦ absurd waiting
          | inr cut ↦ cut
        ];
      };
      few_darts = made.small;
      old_in = omega (arith, all, made.counts.vertex_count, keeps.more_vertices);
      old_few = omega (arith, all, made.plane.order);
      few_edges = omega (arith, ap length lesser, length-lesser p (darts p), edge_total p ends, ends.few_darts);
      edges = edge;
      path_count = count;
      paths = λ e e_in. record {
        edge = edge e e_in;
        listed = listed e e_in (edge e e_in).first (edge e e_in).rest (edge e e_in).path;
      };
    }

pub is_boxed : (p : PlaneModel) (shape : ShapeModel) (w : DartMap) (outside : ℕ) (t : DartTable) (old : ℕ) (edges : List ℕ)
    (paths : List (List ℕ)) → IsMade p shape w outside t → old ≡ vertices p → edges ≡ lesser_darts p →
    length paths ≡ length edges →
    ((e : ℕ) → e < length edges → (first : ℕ) (rest : List ℕ) → IsPath (dart_map_of t) (slice_index edges e) first rest →
    slice_index_or paths e [] ≡ first ∷ rest) → IsBoxed p shape (parts_of t old edges paths)
is_boxed p shape w outside t old edges paths made all lesser count listed =
    let keeps : Keeps w (dart_map_of t) = enclosed_keeps w outside (dart_map_of t) made.enclosed in
    let ends = plane_ends p made.plane in
    record {
      boxes = are_boxes p shape w outside t old edges paths made all lesser count listed;
      old = all;
      edges = lesser;
      halves = omega (arith, ap length lesser, length-lesser p (darts p), edge_total p ends);
      few = omega (arith, made.few, made.counts.vertex_count, made.counts.right_turns);
      heads = λ d d_in. keeps.head d (omega (arith, d_in, made.kept.few)) ∙ made.kept.heads d d_in;
      paths = kept_paths p shape w outside t made;
      apart = paths_lie_apart p shape w outside t made;
      chains = (are_edges p shape w outside t made).chains.chains;
      enclosed = map_stands p shape w outside t old edges paths made;
      angles = λ d d_in.
          let m : ℕ = reverse_dart p (next p d) in
          let m_in : m < darts p = ends.reverse_dart_in_range (next p d) (ends.next_one.inside d d_in) in
          let there : (dart_map_of t).direction m ≡ w.direction m = keeps.direction m (omega (arith, m_in, made.kept.few)) in
          let here : (dart_map_of t).direction d ≡ w.direction d = keeps.direction d (omega (arith, d_in, made.kept.few)) in
          ap (λ (k : ℕ). (k + angle_at shape d) % 4) there ∙ made.directions.angles d d_in ∙ sym here;
    }
