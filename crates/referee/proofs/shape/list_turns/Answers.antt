use Rattle.std.proofs.Common.{◌≡◌, ◌≤◌, ◌<◌, ◌+◌, ◌++◌, ◌∷◌, [], ◌∙◌, ℕ, List, Vec, Global, All, get_or, length, length-append, vec_len, true, false, refl, ap, subst, sym, arith}
use Rattle.std.proofs.lemmas.Bool.{lt-ltb, le-ltb}
use Rattle.std.proofs.lemmas.List.Elements.{All-push}
use Rattle.std.proofs.lemmas.Result.{err_from_is_err_and}
use Rattle.faces.specs.Planes.{darts, reverse_dart}
use Rattle.ortho_rep.specs.Turns.{mirrored}
use Rattle.ortho_rep.specs.declared.turn_strings.Turn.{Turn}
use Rattle.ortho_rep.specs.declared.turn_strings.TheConstants.{MAX_TURNS}
use Rattle.ortho_rep.specs.Edges.{is_lesser}
use Rattle.ortho_rep.proofs.EdgeNumbers.{edge_number-le}
use Rattle.drawing_check.proofs.Leaving.{number_of_lesser, number_of_greater}
use Rattle.std.proofs.lemmas.List.{length-map, map_push}
use Rattle.ortho_rep.specs.Storage.{lists_in}
use Rattle.referee.specs.Faults.{AreOnGridLines, IsFirstFailure}
use Rattle.referee.specs.declared.judge.Fault.{Fault}
use Rattle.referee.proofs.FirstFaults.{first_straight}
use Rattle.referee.proofs.Listed.{AreListed, listed_more, listed_none, listed_mirrors}
use Rattle.referee.proofs.shape.list_turns.Goals as goal
use Rattle.referee.proofs.shape.list_turns.Goals.{then-dart-reverse, else-dart-reverse}

pub overflow_add-edge : goal.overflow_add-edge
overflow_add-edge c = omega (arith, edge_number-le c.args.plane.now c.loop-dart.dart, c.loop-dart.invariant.number, c.graph-graph.ensures.ends.few_darts)

pub loop-dart-preserved : goal.loop-dart-preserved
loop-dart-preserved c =
    let p = c.args.plane.now in
    let dart = c.loop-dart.dart in
    let so_far = c.loop-dart.invariant in
    let reverse_dart_is : c.reverse.result ≡ reverse_dart p dart = rw c.graph-graph.ensures.value at c.reverse.ensures.value in
    let old : List (Vec Turn Global) = c.loop-dart.strings.items in
    let added : c.add.new.list.items ≡ old ++ c.in_ok-string.string ∷ [] = c.in_ok-add.ensures in
    let few : All (λ (v : Vec Turn Global). vec_len v ≤ MAX_TURNS) c.add.new.list.items =
    subst (λ (vs : List (Vec Turn Global)). All (λ (v : Vec Turn Global). vec_len v ≤ MAX_TURNS) vs) (sym added)
    (All-push (λ (v : Vec Turn Global). vec_len v ≤ MAX_TURNS) old c.in_ok-string.string so_far.short c.in_ok-string.ensures.short) in
    let size : length c.add.new.list.items ≡ dart + 1 = ap length added ∙ length-append old (c.in_ok-string.string ∷ []) ∙ ap (λ (n : ℕ). n + 1) so_far.count in
    let ends = c.graph-graph.ensures.ends in
    let count : c.darts-dart-end.result ≡ darts p = rw c.graph-graph.ensures.value at c.darts-dart-end.ensures.count in
    let inside : dart < darts p = omega (arith, count) in
    let items : Vec Turn Global → List Turn = λ (v : Vec Turn Global). v.items in
    let is_new : lists_in c.add.new.list.items ≡ lists_in old ++ c.in_ok-string.string.items ∷ [] = ap lists_in added ∙ map_push items old c.in_ok-string.string in
    let listed : AreListed p c.args.points.now (lists_in c.add.new.list.items) (dart + 1) =
    listed_more p c.args.points.now (lists_in old) (lists_in c.add.new.list.items) c.in_ok-string.string.items dart ends inside is_new (length-map old items ∙ so_far.count) so_far.listed
    c.in_ok-string.ensures.turning (λ greater. c.in_ok-string.ensures.mirrored greater ∙ ap (λ (vs : List (Vec Turn Global)). mirrored (get_or (lists_in vs) (reverse_dart p dart) [])) c.deref.ensures.value) in
    elim c.if-dart-reverse.branch [
      | then-dart-reverse w ↦
          let lesser : is_lesser p dart ≡ true = lt-ltb dart (reverse_dart p dart) (omega (arith, reverse_dart_is, w.if-dart-reverse.true)) in
          record {
            number = omega (arith, w.edge-is, number_of_lesser p dart lesser, so_far.number);
            count = size;
            listed = listed;
            short = few;
          }
      | else-dart-reverse w ↦
          let greater : is_lesser p dart ≡ false = le-ltb dart (reverse_dart p dart) (omega (arith, reverse_dart_is, w.if-dart-reverse.false)) in
          record {
            number = omega (arith, w.edge-is, number_of_greater p dart greater, so_far.number);
            count = size;
            listed = listed;
            short = few;
          }
    ]

pub loop-dart-init : goal.loop-dart-init
loop-dart-init c =
    let none = c.in_ok-strings.ensures.items in
    record {
      number = refl;
      count = ap length none;
      listed = listed_none c.args.plane.now c.args.points.now (lists_in c.in_ok-strings.strings.items);
      short = subst (λ (vs : List (Vec Turn Global)). All (λ (v : Vec Turn Global). vec_len v ≤ MAX_TURNS) vs) (sym none) (λ k d lt. absurd (omega (arith, lt)));
    }

pub returns-clause-turning : goal.returns-clause-turning
returns-clause-turning c =
    let count : c.darts-dart-end.result ≡ darts c.args.plane.now = rw c.graph-graph.ensures.value at c.darts-dart-end.ensures.count in
    λ d lt lesser. c.loop-dart.invariant.listed.lesser d (omega (arith, lt, count)) lesser

pub returns-clause-mirrored : goal.returns-clause-mirrored
returns-clause-mirrored c =
    let p = c.args.plane.now in
    let count : c.darts-dart-end.result ≡ darts p = rw c.graph-graph.ensures.value at c.darts-dart-end.ensures.count in
    let whole : c.loop-dart.dart ≡ darts p = omega (arith, count, c.loop-dart.auto.dart-end) in
    listed_mirrors p c.args.points.now (lists_in c.loop-dart.strings.items) c.loop-dart.dart c.graph-graph.ensures.ends whole c.loop-dart.invariant.listed

pub returns-in_err-string-clause-refused : goal.returns-in_err-string-clause-refused
returns-in_err-string-clause-refused c =
    let q = err_from_is_err_and c.from_residual-in_err-string.result c.from_residual-in_err-string.ensures.1 in
    rw q.1 (λ some. c.in_err-string.ensures.refused (λ m. some (q.2 ∙ m)))

pub returns-in_err-string-clause-first : goal.returns-in_err-string-clause-first
returns-in_err-string-clause-first c =
    let p = c.args.plane.now in
    let points = c.args.points.now in
    let dart = c.loop-dart.dart in
    let count : c.darts-dart-end.result ≡ darts p = rw c.graph-graph.ensures.value at c.darts-dart-end.ensures.count in
    let inside : dart < darts p = omega (arith, count) in
    let q = err_from_is_err_and c.from_residual-in_err-string.result c.from_residual-in_err-string.ensures.1 in
    rw q.1 (λ some. subst (λ (fault : Fault). AreOnGridLines p points → IsFirstFailure p points fault) (sym q.2)
    (first_straight p points dart inside c.loop-dart.edge _ (lists_in c.loop-dart.strings.items) c.loop-dart.invariant.number (c.in_err-string.ensures.lesser (λ m. some (q.2 ∙ m)))
    c.loop-dart.invariant.listed.lesser (c.in_err-string.ensures.first (λ m. some (q.2 ∙ m)))))
