use Rattle.px_filed.proofs.Marks.{all_files, each_file, lowered, raised}
use Rattle.px_filed.proofs.laws.each_file_rests.Goals as goal

pub returns : goal.returns
returns c = record {
  files = each_file;
  together = all_files;
  lower = lowered;
  raise = λ parts short tables next rows life upto applied file files is rests from to spared.
      raised parts short tables next rows life upto applied is from to file files rests spared;
}
