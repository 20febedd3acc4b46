use Rattle.std.proofs.Common.{rules, arith, SFits, w64, ◌≡◌, ◌^◌, length}
use Rattle.std.proofs.lemmas.Int.{to_z-of_z}
use Rattle.code_layers.specs.Glue.{best_sum}
use Rattle.code_layers.specs.GlueFinds.{pick_of}
use Rattle.code_layers.proofs.GlueSearch.{offer, offers, turn, held_last}
use Rattle.code_layers.proofs.glue.Glue.best.Goals as goal

pub loop-j-preserved : goal.loop-j-preserved
loop-j-preserved g c =
    let M = g.F.WordFinder.meaning c.args.self.now.below in
    let f : SFits w64 c.in_ok-word.correlation = search rules in
    record {
      long = omega (arith, c.negate.auto.gains, c.copy_from_slice.ensures.len, c.loop-j.invariant.long);
      chosen =
          turn c.args.words.now M c.args.gains.now c.copy_from_slice.new.self c.negate.new.gains c.loop-j.j c.glue_sum-sum.result c.in_ok-word.word c.in_ok-word.correlation _ c.offer.new.self.held
          (c.requires.granted.below c.loop-j.j) c.glue_sum-sum.ensures c.copy_from_slice.ensures.after c.negate.ensures c.in_ok-word.ensures.answers_the_pick_and_its_correlation (to_z-of_z w64 c.in_ok-word.correlation f)
          (c.offer.ensures.holds_the_first_best (offers c.args.words.now (pick_of M) c.args.gains.now c.loop-j.j) c.loop-j.invariant.chosen);
    }

pub returns : goal.returns
returns g c =
    let M = g.F.WordFinder.meaning c.args.self.now.below in
    let last : c.loop-j.j ≡ 2 ^ length c.args.words.now = search rules in
    let held = held_last c.args.words.now (pick_of M) c.args.gains.now c.loop-j.best.held (rw last at c.loop-j.invariant.chosen) in
    let f : SFits w64 c.unwrap-word.result.1.0 = search rules in
    let is : c.unwrap-word.result ≡ offer c.args.words.now (pick_of M) c.args.gains.now (best_sum c.args.words.now (pick_of M) c.args.gains.now) = cc in
    rw (c.requires.granted.whole, to_z-of_z w64 c.unwrap-word.result.1.0 f, is)
