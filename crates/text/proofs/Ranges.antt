-- What a reader has come to at each byte of a range or an escape. Assumes nothing.
use Rattle.std.proofs.Common.{◌≡◌, ℕ, ◌<◌, ◌≤◌, sym, refl, ap, ◌∙◌, subst, arith}
use Rattle.table.specs.declared.node.Node.{Node}
use Rattle.table.specs.Tree.{leaf_node}
use Rattle.text.specs.declared.reader.Reader.{Reader}
use Rattle.text.specs.declared.reader.Stop.{Stop}
use Rattle.text.specs.declared.reader.Stop.TheVariants.{Off}
use Rattle.text.specs.Grammar.{range, quoted}
use Rattle.text.specs.Scan.{off}
use Rattle.text.specs.Steps.{stopped}
use Rattle.text.specs.Progress.{AtEnd, Comes, Took, Added, AtomRead, AtomStops}
use Rattle.text.proofs.Atoms.{low_cut, dash_cut, high_cut, out_of_order, close_cut, range_goes, escape_cut, escape_goes, one_node}
use Rattle.text.proofs.Taking.{comes, comes_not, past_end, took_more, added_more}

-- \ and the byte meant
module _ (was mid : Reader) (h : Comes 92 was) (one : Took 1 was mid) where
  pub escape_stops : (e : Stop) → (e ≡ Off mid.at) × AtEnd mid → AtomStops was e
  escape_stops e n o a p k =
      escape_cut was.text.now was.at o a p (omega (arith, was.shallow)) h (past_end _ _ _ one n.1) ∙ ap off (sym one.at) ∙ sym (ap stopped n.0)

  pub escape_read : (b : ℕ) → Comes b mid → (n : Node) → n ≡ leaf_node (record { tag = 0; low = b; high = b }) 0 → (now : Reader) → Added 1 n mid now → AtomRead was now
  escape_read b c n e now m =
      one_node (quoted b) _ refl refl 2 was now
      (λ o a p k. escape_goes was.text.now was.at o a p (omega (arith, was.shallow)) b h (comes _ _ _ one _ c))
      (omega arith) (added_more 1 1 _ _ _ one _ (subst (λ n. Added 1 n mid now) e m))

-- [l-h]
module _ (was at_low : Reader) (h : Comes 91 was) (one : Took 1 was at_low) where
  pub low_stops : (e : Stop) → (e ≡ Off at_low.at) × AtEnd at_low → AtomStops was e
  low_stops e n o a p k =
      low_cut was.text.now was.at o a p (omega (arith, was.shallow)) h (past_end _ _ _ one n.1) ∙ ap off (sym one.at) ∙ sym (ap stopped n.0)

  module _ (l : ℕ) (at_dash : Reader) (low : Comes l at_low × Took 1 at_low at_dash) where
    two : Took 2 was at_dash
    two = took_more 1 1 _ _ _ one low.1

    pub dash_stops : (e : Stop) → (e ≡ Off at_dash.at) × (Comes 45 at_dash → ⊥) → AtomStops was e
    dash_stops e n o a p k =
        dash_cut was.text.now was.at o a p (omega (arith, was.shallow)) l h (comes _ _ _ one _ low.0) (comes_not _ _ _ two _ n.1) ∙ ap off (sym two.at) ∙ sym (ap stopped n.0)

    module _ (at_high : Reader) (dash : Comes 45 at_dash × Took 1 at_dash at_high) where
      three : Took 3 was at_high
      three = took_more 2 1 _ _ _ two dash.1

      pub high_stops : (e : Stop) → (e ≡ Off at_high.at) × AtEnd at_high → AtomStops was e
      high_stops e n o a p k =
          high_cut was.text.now was.at o a p (omega (arith, was.shallow)) l h (comes _ _ _ one _ low.0) (comes _ _ _ two _ dash.0) (past_end _ _ _ three n.1) ∙ ap off (sym three.at) ∙ sym (ap stopped n.0)

      module _ (u : ℕ) (high : Comes u at_high) where
        pub order_stops : u < l → AtomStops was (Off at_high.at)
        order_stops lt o a p k =
            out_of_order was.text.now was.at o a p (omega (arith, was.shallow)) l h (comes _ _ _ one _ low.0) (comes _ _ _ two _ dash.0) u (comes _ _ _ three _ high) lt ∙ ap off (sym three.at)

        module _ (le : l ≤ u) (at_end : Reader) (past : Took 1 at_high at_end) where
          four : Took 4 was at_end
          four = took_more 3 1 _ _ _ three past

          pub close_stops : (e : Stop) → (e ≡ Off at_end.at) × (Comes 93 at_end → ⊥) → AtomStops was e
          close_stops e n o a p k =
              close_cut was.text.now was.at o a p (omega (arith, was.shallow)) l h (comes _ _ _ one _ low.0) (comes _ _ _ two _ dash.0) u (comes _ _ _ three _ high) le (comes_not _ _ _ four _ n.1) ∙ ap off (sym four.at) ∙ sym (ap stopped n.0)

          pub range_read : (after : Reader) → Comes 93 at_end × Took 1 at_end after → (n : Node) → n ≡ leaf_node (record { tag = 0; low = l; high = u }) 0 → (now : Reader) → Added 0 n after now → AtomRead was now
          range_read after close n e now m =
              let five : Took 5 was after = took_more 4 1 _ _ _ four close.1 in
              one_node (range l u) _ refl refl 5 was now
              (λ o a p k. range_goes was.text.now was.at o a p (omega (arith, was.shallow)) l h (comes _ _ _ one _ low.0) (comes _ _ _ two _ dash.0) u (comes _ _ _ three _ high) le (comes _ _ _ four _ close.0))
              (omega arith) (added_more 5 0 _ _ _ five _ (subst (λ n. Added 0 n after now) e m))
