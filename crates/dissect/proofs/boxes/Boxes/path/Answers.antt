use Rattle.std.proofs.Common.{◌≡◌, ◌<◌, ◌∙◌, ℕ, [], length, get_or, ap, arith, subst, sym}
use Rattle.dissect.specs.Boxes.{BoxesModel, IsEdgePath, parts_of}
use Rattle.dissect.proofs.boxes.Boxes.path.Goals as goal

pub get-requires : goal.get-requires
get-requires c =
    let b = c.self.inside in
    let at : c.args.self.now ≡ parts_of b.table b.old b.edges.items b.paths = sym c.self.view_is in
    let e_in : c.args.edge < length b.edges.items = subst (λ (s : BoxesModel). c.args.edge < length s.edges) at c.requires in
    omega (arith, e_in, c.from.ensures, c.self.invariant.path_count)

pub returns : goal.returns
returns c =
    let b = c.self.inside in
    let e = c.args.edge in
    let own : BoxesModel = parts_of b.table b.old b.edges.items b.paths in
    let at : c.args.self.now ≡ own = sym c.self.view_is in
    let e_in : e < length b.edges.items = subst (λ (s : BoxesModel). e < length s.edges) at c.requires in
    let is : get_or b.paths e [] ≡ c.get.result.now = ap (λ (k : ℕ). get_or b.paths k []) (sym c.from.ensures) ∙ sym c.get.ensures in
    record {
      path = subst (λ (s : BoxesModel). IsEdgePath s e c.get.result.now) (sym at)
          (subst (IsEdgePath own e) is (c.self.invariant.paths e e_in));
    }
