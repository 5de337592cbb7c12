use Rattle.std.proofs.Common.{◌≡◌, ◌∙◌, ◌++◌, ℕ, List, [], ◌∷◌, length, slice_index, slice_index_or, ap, arith, subst, sym, refl}
use Rattle.dissect.specs.Tables.{dart_map_of}
use Rattle.dissect.specs.Paths.{IsPath}
use Rattle.dissect.proofs.PathsOfEdges.{IsPathOf}
use Rattle.common.proofs.PushedLists.{concatenated-starts, concatenated-pushed, concatenated-AreStarts, concatenated-slices_at}
use Rattle.dissect.proofs.dissection.paths_of.Goals as goal

pub edges-init : goal.edges-init
edges-init c =
    concatenated-starts c.push.new.self.items c.in_ok-darts.darts.items (IsPathOf (dart_map_of c.args.table.now) c.args.edges.now)
    (c.in_ok-push.ensures.items ∙ ap (λ (s : List ℕ). s ++ (0 ∷ [])) c.in_ok-starts.ensures.items) c.in_ok-darts.ensures.items

pub push_path-requires : goal.push_path-requires
push_path-requires c =
    let e = c.edges.last-index in
    let path = c.requires.paths e c.edges-test.true in
    record { path = (path.0, path.1, subst (λ (d : ℕ). IsPath (dart_map_of c.args.table.now) d path.0 path.1) (sym c.from.ensures) path.2) }

pub edges-preserved : goal.edges-preserved
edges-preserved c =
    let w = dart_map_of c.args.table.now in
    let es = c.args.edges.now in
    let e = c.edges.last-index in
    let path = c.requires.paths e c.edges-test.true in
    let pushed : (first : ℕ) (rest : List ℕ) → IsPath w (slice_index es e) first rest →
    c.push_path.new.darts.items ≡ c.edges.darts.items ++ (first ∷ rest) = λ first rest here.
    c.in_ok-push_path.ensures first rest (subst (λ (d : ℕ). IsPath w d first rest) (sym c.from.ensures) here) in
    concatenated-pushed c.edges.starts.items c.push-in-edges.new.self.items c.edges.darts.items c.push_path.new.darts.items (path.0 ∷ path.1) e
    c.len.result (IsPathOf w es) c.edges.invariant (pushed path.0 path.1 path.2)
    (λ piece is. pushed is.first is.rest is.path ∙ ap (λ (p : List ℕ). c.edges.darts.items ++ p) (sym is.is))
    (omega (arith, c.len.ensures, c.push_path.new.darts.ok)) c.in_ok-push-2.ensures.items

pub new-requires : goal.new-requires
new-requires c = concatenated-AreStarts _ _ _ _ c.edges.invariant

pub returns : goal.returns
returns c =
    let w = dart_map_of c.args.table.now in
    let es = c.args.edges.now in
    let pieces = concatenated-slices_at c.edges.starts.items c.edges.darts.items c.edges.last-index (IsPathOf w es) c.edges.invariant in
    let all : c.edges.last-index ≡ length es = omega (arith, c.edges-test.false, c.edges.auto.last-index-end) in
    record {
      count = ap length c.new.ensures ∙ pieces.0 ∙ all;
      paths = λ e e_in first rest path.
          ap (λ (l : List (List ℕ)). slice_index_or l e []) c.new.ensures
          ∙ pieces.1 e (omega (arith, e_in, all)) (first ∷ rest) (record { first = first; rest = rest; path = path; is = refl });
    }
