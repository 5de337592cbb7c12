use Rattle.std.proofs.Common.{◌≡◌, ◌<◌, ◌∙◌, ℕ, List, [], ◌∷◌, length, slice_index, slice_index_or, ap, sym, subst, arith}
use Rattle.dissect.specs.Tables.{dart_map_of}
use Rattle.faces.specs.Planes.{face_at, vertices}
use Rattle.dissect.specs.Paths.{IsPath}
use Rattle.dissect.specs.Boxed.{IsBoxed}
use Rattle.dissect.proofs.Boxing.{IsMade, are_boxes, edge_path, is_boxed}
use Rattle.dissect.proofs.dissection.dissect_along.Goals as goal

pub paths_of-requires : goal.paths_of-requires
paths_of-requires c =
    let made : IsMade c.args.plane.now c.args.shape.now (dart_map_of c.in_ok-table.table) c.from.result c.refine_in.new.table = record {
      plane = c.graph.ensures.plane;
      sound = c.in_ok-table.ensures.sound;
      kept = c.in_ok-table.ensures.darts;
      faces = c.in_ok-table.ensures.faces;
      directions = c.in_ok-table.ensures.directions;
      counts = c.in_ok-table.ensures.counts;
      paths = c.in_ok-table.ensures.paths;
      chains = c.in_ok-table.ensures.chains;
      connected = c.in_ok-table.ensures.connected;
      label = c.in_ok-table.ensures.labelled.0;
      labelling = c.in_ok-table.ensures.labelled.1;
      outside_in = omega (arith, c.from.ensures, c.least_dart-outer.ensures.inside);
      outer = ap (face_at c.args.plane.now) c.from.ensures ∙ (c.least_dart-outer.ensures.face ∙ c.outer.ensures.value);
      enclosed = c.in_ok-faces.ensures.enclosed;
      cut_sound = c.in_ok-faces.ensures.sound;
      done = c.in_ok-faces.ensures.done;
      reaches = c.in_ok-faces.ensures.reaches;
      few = c.in_ok-faces.ensures.few;
      small = omega (arith, c.refine_in.new.table.darts_in, c.refine_in.new.table.darts_fit);
    } in
    let es = c.in_ok-edges.edges.items in
    record {
      paths = λ e e_in.
          let path = edge_path c.args.plane.now c.args.shape.now (dart_map_of c.in_ok-table.table) c.from.result c.refine_in.new.table es
          made c.in_ok-edges.ensures e (omega (arith, e_in, ap length c.deref-2.ensures.value)) in (
            path.0,
            path.1,
            subst (λ (ds : List ℕ). IsPath (dart_map_of c.refine_in.new.table) (slice_index ds e) path.0 path.1) (sym c.deref-2.ensures.value) path.2,
          );
    }

pub of-requires : goal.of-requires
of-requires c =
    let made : IsMade c.args.plane.now c.args.shape.now (dart_map_of c.in_ok-table.table) c.from.result c.refine_in.new.table = record {
      plane = c.graph.ensures.plane;
      sound = c.in_ok-table.ensures.sound;
      kept = c.in_ok-table.ensures.darts;
      faces = c.in_ok-table.ensures.faces;
      directions = c.in_ok-table.ensures.directions;
      counts = c.in_ok-table.ensures.counts;
      paths = c.in_ok-table.ensures.paths;
      chains = c.in_ok-table.ensures.chains;
      connected = c.in_ok-table.ensures.connected;
      label = c.in_ok-table.ensures.labelled.0;
      labelling = c.in_ok-table.ensures.labelled.1;
      outside_in = omega (arith, c.from.ensures, c.least_dart-outer.ensures.inside);
      outer = ap (face_at c.args.plane.now) c.from.ensures ∙ (c.least_dart-outer.ensures.face ∙ c.outer.ensures.value);
      enclosed = c.in_ok-faces.ensures.enclosed;
      cut_sound = c.in_ok-faces.ensures.sound;
      done = c.in_ok-faces.ensures.done;
      reaches = c.in_ok-faces.ensures.reaches;
      few = c.in_ok-faces.ensures.few;
      small = omega (arith, c.refine_in.new.table.darts_in, c.refine_in.new.table.darts_fit);
    } in
    let listed : (e : ℕ) → e < length c.in_ok-edges.edges.items → (first : ℕ) (rest : List ℕ) →
    IsPath (dart_map_of c.refine_in.new.table) (slice_index c.in_ok-edges.edges.items e) first rest →
    slice_index_or c.in_ok-paths.paths e [] ≡ first ∷ rest = λ e e_in first rest path.
    c.in_ok-paths.ensures.paths e (omega (arith, e_in, ap length c.deref-2.ensures.value)) first rest
    (subst (λ (ds : List ℕ). IsPath (dart_map_of c.refine_in.new.table) (slice_index ds e) first rest) (sym c.deref-2.ensures.value) path) in
    let all : c.vertices-old.result ≡ vertices c.args.plane.now = c.vertices-old.ensures.count ∙ ap length c.graph.ensures.value in
    are_boxes c.args.plane.now c.args.shape.now (dart_map_of c.in_ok-table.table) c.from.result c.refine_in.new.table c.vertices-old.result
    c.in_ok-edges.edges.items c.in_ok-paths.paths made all c.in_ok-edges.ensures
    (c.in_ok-paths.ensures.count ∙ ap length c.deref-2.ensures.value) listed

pub returns : goal.returns
returns c =
    let made : IsMade c.args.plane.now c.args.shape.now (dart_map_of c.in_ok-table.table) c.from.result c.refine_in.new.table = record {
      plane = c.graph.ensures.plane;
      sound = c.in_ok-table.ensures.sound;
      kept = c.in_ok-table.ensures.darts;
      faces = c.in_ok-table.ensures.faces;
      directions = c.in_ok-table.ensures.directions;
      counts = c.in_ok-table.ensures.counts;
      paths = c.in_ok-table.ensures.paths;
      chains = c.in_ok-table.ensures.chains;
      connected = c.in_ok-table.ensures.connected;
      label = c.in_ok-table.ensures.labelled.0;
      labelling = c.in_ok-table.ensures.labelled.1;
      outside_in = omega (arith, c.from.ensures, c.least_dart-outer.ensures.inside);
      outer = ap (face_at c.args.plane.now) c.from.ensures ∙ (c.least_dart-outer.ensures.face ∙ c.outer.ensures.value);
      enclosed = c.in_ok-faces.ensures.enclosed;
      cut_sound = c.in_ok-faces.ensures.sound;
      done = c.in_ok-faces.ensures.done;
      reaches = c.in_ok-faces.ensures.reaches;
      few = c.in_ok-faces.ensures.few;
      small = omega (arith, c.refine_in.new.table.darts_in, c.refine_in.new.table.darts_fit);
    } in
    let listed : (e : ℕ) → e < length c.in_ok-edges.edges.items → (first : ℕ) (rest : List ℕ) →
    IsPath (dart_map_of c.refine_in.new.table) (slice_index c.in_ok-edges.edges.items e) first rest →
    slice_index_or c.in_ok-paths.paths e [] ≡ first ∷ rest = λ e e_in first rest path.
    c.in_ok-paths.ensures.paths e (omega (arith, e_in, ap length c.deref-2.ensures.value)) first rest
    (subst (λ (ds : List ℕ). IsPath (dart_map_of c.refine_in.new.table) (slice_index ds e) first rest) (sym c.deref-2.ensures.value) path) in
    let all : c.vertices-old.result ≡ vertices c.args.plane.now = c.vertices-old.ensures.count ∙ ap length c.graph.ensures.value in
    subst (IsBoxed c.args.plane.now c.args.shape.now) (sym c.of.ensures)
    (is_boxed c.args.plane.now c.args.shape.now (dart_map_of c.in_ok-table.table) c.from.result c.refine_in.new.table c.vertices-old.result
    c.in_ok-edges.edges.items c.in_ok-paths.paths made all c.in_ok-edges.ensures
    (c.in_ok-paths.ensures.count ∙ ap length c.deref-2.ensures.value) listed)
