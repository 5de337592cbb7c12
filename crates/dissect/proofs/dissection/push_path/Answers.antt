use Rattle.std.proofs.Common.{◌≡◌, ◌<◌, ◌≤◌, ◌∙◌, ℕ, ◌-◌, List, [], ◌∷◌, ◌++◌, length, length-append, take, drop, reverse, slice_index, arith, subst, sym, ap}
use Rattle.std.proofs.lemmas.List.{get_or_read, take_all, take_at, take-append-le, drop_at, drop-append-le, length-drop, length-reverse}
use Rattle.std.proofs.lemmas.Slice.{take-put_mid}
use borrow.Rule.Slice.PartMut.{put_mid, mid_of}
use Rattle.dissect.specs.DartMaps.{no_dart}
use Rattle.dissect.specs.Tables.{dart_map_of}
use Rattle.dissect.specs.Paths.{IsPath}
use Rattle.dissect.proofs.Reading.{length-put_mid}
use Rattle.dissect.proofs.DartsInFront.{IsReadBack, depth, path_last_in, way_starts, way_on, way_ends}
use Rattle.dissect.proofs.dissection.push_path.Goals as goal

-- a list whose end was written over
written : (xs ys more : List ℕ) (a n : ℕ) → a ≤ length xs → n ≡ length xs → length ys ≡ length xs - a →
    take n (put_mid a (length xs - a) xs ys ++ more) ≡ take a xs ++ ys
written xs ys more a n a_in long size =
    let k : ℕ = length xs - a in
    let whole : length (put_mid a k xs ys) ≡ n = length-put_mid a k xs ys (omega (arith, a_in)) size ∙ sym long in
    take_at (put_mid a k xs ys) more n whole ∙ sym (take_all n (put_mid a k xs ys) (omega (arith, whole)))
    ∙ take-put_mid a k xs ys n (omega (arith, long, size, a_in)) a_in

-- its end is all that is taken of it
end_of : (xs : List ℕ) (a : ℕ) → mid_of a (length xs - a) xs ≡ drop a xs
end_of xs a = take_all (length xs - a) (drop a xs) (omega (arith, length-drop a xs))

pub back-init : goal.back-init
back-init c =
    let w = dart_map_of c.args.table.now in
    let (first, rest, path) = c.requires.path in
    let old = c.args.darts.now.items in
    let a = c.len-start.result in
    let long : length old ≡ a = omega (arith, c.len-start.ensures, c.args.darts.now.ok) in
    let all : c.push.new.self.items ≡ old ++ (c.args.last ∷ []) = c.in_ok-push.ensures.items in
    let one : drop a c.push.new.self.items ≡ c.args.last ∷ [] = ap (drop a) all ∙ drop_at old (c.args.last ∷ []) a long in
    record {
      inside = path_last_in w c.args.last first rest path;
      long = omega (arith, ap length all, length-append old (c.args.last ∷ []), long);
      before = ap (take a) all ∙ take_at old (c.args.last ∷ []) a long;
      way = λ first rest path. subst (IsReadBack w (first ∷ rest) c.args.last) (sym one) (way_starts w c.args.last first rest path);
    }

-- one dart further back
step_of : (c : goal.In_ok-push-2) → (first : ℕ) (rest : List ℕ) → IsPath (dart_map_of c.args.table.now) c.args.last first rest →
    IsReadBack (dart_map_of c.args.table.now) (first ∷ rest) c.index-dart.result.now
    (drop c.len-start.result c.back.darts.items ++ (c.index-dart.result.now ∷ []))
    × (c.index-dart.result.now < c.args.table.now.darts)
    × (depth (dart_map_of c.args.table.now) c.args.table.now.darts c.index-dart.result.now < depth (dart_map_of c.args.table.now) c.args.table.now.darts c.back.dart)
step_of c first rest path =
    let t = c.args.table.now in
    let there : c.back.dart < length t.before.items = omega (arith, c.back.invariant.inside, t.darts_in, t.before_room, t.before.ok.0) in
    let test = get_or_read t.before.items c.back.dart c.index.result.now there c.index.ensures 0 in
    let read = get_or_read t.before.items c.back.dart c.index-dart.result.now there c.index-dart.ensures 0 in
    way_on (dart_map_of t) (first ∷ rest) c.back.dart c.index-dart.result.now (drop c.len-start.result c.back.darts.items)
    (omega (arith, t.darts_in, t.darts_fit)) (sym read) (λ none. c.back-test.true (test ∙ sym read ∙ none))
    (c.back.invariant.way first rest path)

pub back-smaller : goal.back-smaller
back-smaller c =
    let (first, rest, path) = c.requires.path in
    (step_of c first rest path).2

pub back-preserved : goal.back-preserved
back-preserved c =
    let (first, rest, path) = c.requires.path in
    let a = c.len-start.result in
    let xs = c.back.darts.items in
    let d = c.index-dart.result.now in
    let all : c.push-in-back.new.self.items ≡ xs ++ (d ∷ []) = c.in_ok-push-2.ensures.items in
    let more : drop a c.push-in-back.new.self.items ≡ drop a xs ++ (d ∷ []) =
    ap (drop a) all ∙ drop-append-le a xs (d ∷ []) c.back.invariant.long in
    record {
      inside = (step_of c first rest path).1;
      long = omega (arith, ap length all, length-append xs (d ∷ []), c.back.invariant.long);
      before = ap (take a) all ∙ take-append-le a xs (d ∷ []) c.back.invariant.long ∙ c.back.invariant.before;
      way = λ first rest path.
          subst (IsReadBack (dart_map_of c.args.table.now) (first ∷ rest) d) (sym more) (step_of c first rest path).0;
    }

pub returns : goal.returns
returns c = λ first rest path.
    let t = c.args.table.now in
    let a = c.len-start.result in
    let xs = c.back.darts.items in
    let ms = c.deref_mut.result.now in
    let ys = c.reverse.new.self in
    let there : c.back.dart < length t.before.items = omega (arith, c.back.invariant.inside, t.darts_in, t.before_room, t.before.ok.0) in
    let read = get_or_read t.before.items c.back.dart c.index.result.now there c.index.ensures 0 in
    let none : slice_index t.before.items c.back.dart ≡ no_dart = omega (arith, read, c.back-test.false) in
    let same : ms ≡ xs = c.deref_mut.ensures.value in
    let a_in : a ≤ length ms = omega (arith, c.back.invariant.long, ap length same) in
    let turned : ys ≡ reverse (drop a xs) = c.reverse.ensures.after ∙ ap reverse (end_of ms a ∙ ap (drop a) same) in
    let size : length ys ≡ length ms - a =
    omega (arith, ap length turned, length-reverse (drop a xs), length-drop a xs, ap length same, a_in) in
    written ms ys _ a c.back.darts.len a_in (omega (arith, ap length same, c.back.darts.ok)) size
    ∙ ap (λ (zs : List ℕ). take a zs ++ ys) same
    ∙ ap (λ (zs : List ℕ). zs ++ ys) c.back.invariant.before
    ∙ ap (λ (zs : List ℕ). c.args.darts.now.items ++ zs) (turned
    ∙ way_ends (dart_map_of t) (first ∷ rest) c.back.dart (drop a xs) (omega (arith, t.darts_in, t.darts_fit)) none
    (c.back.invariant.way first rest path))
