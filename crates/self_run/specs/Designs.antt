-- The design of a seed: what its machine is made from.
use Rattle.std.specs.Prelude.{ℕ}
use Rattle.chip_laws.specs.Design.{Design}
use Rattle.elf_loader.specs.Image.{ImageView, image_of}
use Rattle.self_workload.specs.Workload.{image_of_seed, workload_settings}

-- its image, as loaded into the memory of generated workloads
abbrev pub loaded_image : ℕ → ImageView
loaded_image seed = image_of (image_of_seed seed) workload_settings.mem_base workload_settings.mem_bytes

abbrev pub design_of_seed : ℕ → Design
design_of_seed seed = record { config = workload_settings; image = loaded_image seed }
