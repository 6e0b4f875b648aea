-- That lines make a file exactly when it is laid out well.
use Rattle.std.proofs.Common.{List, []}
use Rattle.std.specs.Prelude.{Ok}
use Rattle.pm_syn.specs.declared.statement.File.{File}
use Rattle.pm_syn.specs.declared.token.Line.{Line}
use Rattle.pm_parse.specs.Answers.{IsFileAnswer}
use Rattle.pm_parse.specs.LaidOutFiles.{FilesAreLaidOut, IsLaidOutFile}
use Rattle.pm_parse.proofs.AlignedLines.{aligned_trees}
use Rattle.pm_parse.proofs.LaidOutLines.{file_faultless}
use Rattle.pm_parse.proofs.LaidOutTrees.{all_shallow, file_laid_out}

-- a file that lines make is laid out well
answer_laid_out : (lines : List Line) (file : File) → IsFileAnswer lines (Ok file) → IsLaidOutFile lines file
answer_laid_out lines file answer =
    let laid_out = file_laid_out answer.0 file.nodes answer.2.0 answer.2.1 in
    record { entries = answer.0; said = answer.1; shallow = all_shallow [] answer.0 answer.2.0; aligned = laid_out.0; laid_out = laid_out.1 }

-- lines make a file that is laid out well
laid_out_answer : (lines : List Line) (file : File) → IsLaidOutFile lines file → IsFileAnswer lines (Ok file)
laid_out_answer lines file laid_out =
    (laid_out.entries, laid_out.said, (file_faultless laid_out.entries file.nodes laid_out.shallow laid_out.aligned laid_out.laid_out, aligned_trees 0 laid_out.entries file.nodes laid_out.aligned))

-- lines make a file exactly when it is laid out well
pub files_are_laid_out : FilesAreLaidOut
files_are_laid_out lines file = (answer_laid_out lines file, laid_out_answer lines file)
