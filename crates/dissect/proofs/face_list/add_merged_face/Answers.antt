use Rattle.std.proofs.Common.{◌≡◌, ◌++◌, ◌+◌, ◌-◌, ◌∙◌, ℕ, List, [], ◌∷◌, length, take, vec_len, arith, ap, refl}
use Rattle.std.proofs.lemmas.List.{get_or_read}
use Rattle.dissect.specs.Tables.{dart_map_of}
use Rattle.dissect.specs.Listed.{detour}
use Rattle.dissect.proofs.Adding.{IsRemaining, listed_few, left_few, left_kept, connected_made}
use Rattle.dissect.proofs.face_list.add_merged_face.Goals as goal
use Rattle.dissect.proofs.face_list.add_merged_face.Goals.{then-index-eq3, else-index-eq3}

pub overflow_cast-kept : goal.overflow_cast-kept
overflow_cast-kept c =
    let outer = c.args.faces.now.outer in
    let few = listed_few (dart_map_of c.args.table.now) c.args.right c.requires.listed.0 outer.items c.requires.listed.1 in
    let long : vec_len outer ≡ length outer.items = omega (arith, outer.ok.0) in
    let left : IsRemaining c.index.result.now outer.items c.if-index-eq3.faces.outer.items =
    elim c.if-index-eq3.branch [
      | then-index-eq3 w ↦ rw w.faces-is (record {
        popped = λ _. w.pop.ensures.rest ∙ ap (λ (k : ℕ). take (k - 1) outer.items) long;
        whole = λ ne. absurd (ne w.if-index-eq3.true);
      })
      | else-index-eq3 w ↦ rw w.faces-is (record { popped = λ e. absurd (w.if-index-eq3.false e); whole = λ _. refl })
    ] in
    omega (arith, few, left_few c.index.result.now outer.items c.if-index-eq3.faces.outer.items left, c.len-kept.ensures, c.if-index-eq3.faces.outer.ok.0)

pub overflow_add-kept : goal.overflow_add-kept
overflow_add-kept c =
    let outer = c.args.faces.now.outer in
    let few = listed_few (dart_map_of c.args.table.now) c.args.right c.requires.listed.0 outer.items c.requires.listed.1 in
    let long : vec_len outer ≡ length outer.items = omega (arith, outer.ok.0) in
    let left : IsRemaining c.index.result.now outer.items c.if-index-eq3.faces.outer.items =
    elim c.if-index-eq3.branch [
      | then-index-eq3 w ↦ rw w.faces-is (record {
        popped = λ _. w.pop.ensures.rest ∙ ap (λ (k : ℕ). take (k - 1) outer.items) long;
        whole = λ ne. absurd (ne w.if-index-eq3.true);
      })
      | else-index-eq3 w ↦ rw w.faces-is (record { popped = λ e. absurd (w.if-index-eq3.false e); whole = λ _. refl })
    ] in
    omega (arith, few, left_few c.index.result.now outer.items c.if-index-eq3.faces.outer.items left, c.len-kept.ensures, c.if-index-eq3.faces.outer.ok.0)

pub returns : goal.returns
returns c = record {
  connected = λ inner listed flat.
      let outer = c.args.faces.now.outer in
      let long : vec_len outer ≡ length outer.items = omega (arith, outer.ok.0) in
      let left : IsRemaining c.index.result.now outer.items c.if-index-eq3.faces.outer.items =
      elim c.if-index-eq3.branch [
        | then-index-eq3 w ↦ rw w.faces-is (record {
          popped = λ _. w.pop.ensures.rest ∙ ap (λ (k : ℕ). take (k - 1) outer.items) long;
          whole = λ ne. absurd (ne w.if-index-eq3.true);
        })
        | else-index-eq3 w ↦ rw w.faces-is (record { popped = λ e. absurd (w.if-index-eq3.false e); whole = λ _. refl })
      ] in
      let corners : c.if-index-eq3.faces.corners.items ≡ c.args.faces.now.corners.items =
      elim c.if-index-eq3.branch [ then-index-eq3 w ↦ rw w.faces-is refl | else-index-eq3 w ↦ rw w.faces-is refl ] in
      let counts : c.if-index-eq3.faces.counts.items ≡ c.args.faces.now.counts.items =
      elim c.if-index-eq3.branch [ then-index-eq3 w ↦ rw w.faces-is refl | else-index-eq3 w ↦ rw w.faces-is refl ] in
      let kept : List ℕ = c.if-index-eq3.faces.outer.items in
      let angle = get_or_read c.args.table.now.angle.items c.args.right c.index.result.now (omega arith) c.index.ensures 0 in
      let first : c.extend_from_slice.new.self.items ≡ c.args.faces.now.corners.items ++ kept =
      c.in_ok-extend_from_slice.ensures.items ∙ ap (λ (xs : List ℕ). xs ++ c.as_slice.result.now) corners
      ∙ ap (λ (xs : List ℕ). c.args.faces.now.corners.items ++ xs) c.as_slice.ensures.value in
      connected_made (dart_map_of c.args.table.now) c.args.right c.args.side listed.front kept inner c.args.faces.now.corners.items
      c.args.faces.now.counts.items c.extend_from_slice-2.new.self.items c.push.new.self.items (c.len-kept.result + 7)
      (left_kept (dart_map_of c.args.table.now) c.args.right inner outer.items kept c.index.result.now angle left listed) flat
      (c.in_ok-extend_from_slice-2.ensures.items ∙ ap (λ (xs : List ℕ). xs ++ detour c.args.table.now.darts c.args.side) first)
      (c.in_ok-push.ensures.items ∙ ap (λ (xs : List ℕ). xs ++ ((c.len-kept.result + 7) ∷ [])) counts)
      (omega (arith, c.len-kept.ensures, c.if-index-eq3.faces.outer.ok.0));
}
