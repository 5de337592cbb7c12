use Rattle.std.proofs.Common.{◌≡◌, ℕ, ◌+◌, ◌*◌, get_or, sym, ap, ◌∙◌, arith}
use Rattle.std.proofs.lemmas.List.{length-set}
use Rattle.embedding.specs.Walk.{next_in}
use Rattle.embedding.proofs.Tracing.{put_list, fewer_bare, walk_on, walk_ends}
use Rattle.embedding.proofs.genus.walk_face.Goals as goal

pub loop-dart-preserved : goal.loop-dart-preserved
loop-dart-preserved c =
    let rotation = c.args.rotation.now in
    let walk = c.loop-dart.invariant.walk in
    let inside = walk.inside in
    let size = c.loop-dart.invariant.size in
    let put = put_list c.loop-dart.faces c.from.result c.loop-dart.dart c.args.face c.from.ensures (omega (arith, inside, size)) in
    let back : c.from-in-loop-dart-2.result ≡ get_or rotation (2 * c.loop-dart.dart) 0 =
    c.from-in-loop-dart-2.ensures ∙ ap (λ (k : ℕ). get_or rotation (2 * k) 0) c.from-in-loop-dart.ensures in
    let next : get_or rotation (2 * c.from-in-loop-dart-2.result + 1) 0 ≡ next_in rotation c.loop-dart.dart =
    ap (λ (e : ℕ). get_or rotation (2 * e + 1) 0) back in
    record {
      size = length-set c.loop-dart.faces c.from.result c.args.face ∙ size;
      walk = rw next (walk_on _ _ _ _ _ _ _ _ c.requires.tied.walked walk put (λ e. c.if-dart-start.false (next ∙ e)));
    }

pub loop-dart-smaller : goal.loop-dart-smaller
loop-dart-smaller c =
    let walk = c.loop-dart.invariant.walk in
    let inside = walk.inside in
    let size = c.loop-dart.invariant.size in
    let put = put_list c.loop-dart.faces c.from.result c.loop-dart.dart c.args.face c.from.ensures (omega (arith, inside, size)) in
    fewer_bare _ _ _ _ _ put inside walk.bare walk.limit

pub returns-then-dart-start : goal.returns-then-dart-start
returns-then-dart-start c =
    let rotation = c.args.rotation.now in
    let walk = c.loop-dart.invariant.walk in
    let inside = walk.inside in
    let size = c.loop-dart.invariant.size in
    let put = put_list c.loop-dart.faces c.from.result c.loop-dart.dart c.args.face c.from.ensures (omega (arith, inside, size)) in
    let back : c.from-in-loop-dart-2.result ≡ get_or rotation (2 * c.loop-dart.dart) 0 =
    c.from-in-loop-dart-2.ensures ∙ ap (λ (k : ℕ). get_or rotation (2 * k) 0) c.from-in-loop-dart.ensures in
    let next : get_or rotation (2 * c.from-in-loop-dart-2.result + 1) 0 ≡ next_in rotation c.loop-dart.dart =
    ap (λ (e : ℕ). get_or rotation (2 * e + 1) 0) back in
    walk_ends _ _ _ _ _ _ _ _ c.requires.tied.walked walk put (sym next ∙ c.if-dart-start.true)
