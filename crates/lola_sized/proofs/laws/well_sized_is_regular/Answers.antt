use Rattle.lola_sized.proofs.laws.well_sized_is_regular.Goals as goal

pub returns : goal.returns
returns c = λ S sized written. record {
  names = c.names_are_once.ensures S sized;
  assigned = c.each_is_assigned.ensures S sized written;
  pads = c.pads_are_pads.ensures S sized written;
  vectors = λ x there other. c.types_are_vectors.ensures S x sized there other;
  equation_reads = λ e there. c.reads_are_signals.ensures.equations S e sized written (c.one_clock.ensures S sized) there;
  update_reads = λ u there. c.reads_are_signals.ensures.updates S u sized written (c.one_clock.ensures S sized) there;
  array_places = λ u set x there same array. c.arrays_have_places.ensures S u x sized written set there same array;
  values = c.values_fit.ensures S sized written;
}
