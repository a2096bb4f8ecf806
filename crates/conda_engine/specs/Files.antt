-- The files of a run.
use Rattle.std.specs.Prelude.{List, Option, map, option_map, string_bytes}
use Rattle.std.specs.declared.alloc.Global.{Global}
use Rattle.std.specs.declared.string.String.{String}
use Rattle.conda_host.specs.State.{HostState}
use Rattle.command_run.specs.Driving.{bytes_of_file}
use Rattle.command_run.specs.Names.{Names}
use Rattle.command_words.specs.Words.{Files, run_files}
use Rattle.conda_engine.specs.declared.files.FileWords.{FileWords}
use Rattle.command_answers.specs.Verdict.{Account, Aim, aim_of_bytes}

-- the files that the words name, where they are the words of a run
abbrev pub files_of : List (String Global) → Option Files
files_of words = run_files (map string_bytes words)

-- the names that file words hold
abbrev pub names_in : FileWords → Files
names_in w = record {
  config = string_bytes w.config;
  image = string_bytes w.image;
  schedule = string_bytes w.schedule;
  order = string_bytes w.order;
  report = string_bytes w.report;
  output = option_map string_bytes w.output;
}

-- those that a run uses from where its schedule is opened
abbrev pub run_names_of : Files → Names
run_names_of files = record {
  schedule = files.schedule;
  order = files.order;
  report = files.report;
  output = files.output;
}

-- what the files of configuration, image and schedule lead to
abbrev pub aim_of : Account → Files → HostState → Aim
aim_of a files s =
    aim_of_bytes a (bytes_of_file s files.config) (bytes_of_file s files.image) (bytes_of_file s files.schedule)
