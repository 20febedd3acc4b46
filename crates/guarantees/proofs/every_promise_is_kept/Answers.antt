use Rattle.guarantees.proofs.RepeatKept.{repeat_kept}
use Rattle.guarantees.proofs.WordJoinKept.{word_join_kept}
use Rattle.guarantees.proofs.WordGlueKept.{word_glue_kept}
use Rattle.guarantees.proofs.ShortenKept.{shorten_kept}
use Rattle.guarantees.proofs.ConstructionAKept.{construction_a_kept}
use Rattle.guarantees.proofs.ScaleKept.{scale_kept}
use Rattle.guarantees.proofs.PointJoinKept.{point_join_kept}
use Rattle.guarantees.proofs.PointGlueKept.{point_glue_kept}
use Rattle.guarantees.proofs.BlocksKept.{block_kept, two_blocks_kept}
use Rattle.guarantees.proofs.every_promise_is_kept.Goals as goal

pub returns : goal.returns
returns g c =
    let w = g.met.F.WordFinder.lawful c.args.words.now in
    let l = g.met.H.PointFinder.lawful c.args.points.now in
    let k = g.met.K.PointFinder.lawful c.args.other_points.now in
    record {
      repeat = λ a. repeat_kept a _ w;
      join_of_words = word_join_kept _ _ w (g.met.G.WordFinder.lawful c.args.other_words.now);
      glue_of_words = λ ws. word_glue_kept ws _ w;
      shorten = shorten_kept _ w;
      construction_a = construction_a_kept _ w;
      scale = λ k. scale_kept k _ l;
      join_of_points = point_join_kept _ _ l k;
      glue_of_points = λ rows. point_glue_kept rows _ l;
      block = block_kept _ l;
      two_blocks = two_blocks_kept _ _ l k;
    }
