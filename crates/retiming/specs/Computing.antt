-- One name for all that computes: a proof by computation over files unfolds `computing`. Assumes nothing.
use Rattle.std.specs.Prelude.{ℕ}
use Rattle.words.specs.Gates.{operate}
use Rattle.netlist.specs.Net.{spelled, contents_in, contents_at, port_of, outputs_of}
use Rattle.netlist.specs.Trim.{table_number, renumbered, trimmed}
use Rattle.netlist.specs.NodeField.{node_content}
use Rattle.netlist.specs.TableField.{table_content}
use Rattle.netlist.specs.File.{encode}
use Rattle.netlist.specs.Examples.{checking}
use Rattle.behaviour.specs.Run.{holder_of, contents_now, again, round, words_after, words, reset_state, next_state, run_outputs, run_state, state_at, run_word, zero_word}
use Rattle.behaviour.specs.Runs.{input_widths, output_widths, state_widths, fitting}
use Rattle.behaviour.specs.Service.{reset_net, reset_file, run_net, run_file, runs_file}
use Rattle.behaviour.specs.Entries.{state_bytes, state_after}
use Rattle.behaviour.specs.RunList.{entries, run_list_file}
use Rattle.retiming.specs.Leads.{async_here, register_here, asked, relax, leads_after, leads, lead, closed_debt, owing_port}
use Rattle.retiming.specs.Rewrite.{root_in, passed_in, root, passed, own_here, memory_at, word_from, stays, old_on, registers_on, count_on, new_tables, new_table, reset_word, copy_on, copies_at, copies_of, copies}
use Rattle.retiming.specs.Rewrite.{wires_of, wires_all, wire_places, wire_number, entries_of, regs_on, entry_places, reg_places, places, number_of, along, new_source, node_of, rewritten_with, timing_by, timing, rewritten}
use Rattle.retiming.specs.Gates.{first_on, last_on, shown_on, steers_on, steers_of, chain_length, pick_pair, picks_on, chain_spots, pick_spots, spots, spot_number, picked, chained, gated_source, spot_node, gated_with}
use Rattle.retiming.specs.LateLeads.{at_output, late_ends, origin, onward, first_lead, asked_to, relax_to, leads_to_after, leads_to, lead_to, closed_debt_to, owing_port_to}
use Rattle.retiming.specs.LateRewrite.{timing_to_by, timing_to, late_timing, late_started}
use Rattle.retiming.specs.LateDebt.{late_stages, late_verdict}
use Rattle.retiming.specs.LateFile.{late_file_verdict, late_file, late_rewrite}
use Rattle.retiming.specs.Debt.{grown, debt_stages, debt_verdict}
use Rattle.retiming.specs.FileRewrite.{rewriter_verdict, rewritten_file, written, rewrite_file}
use Rattle.retiming.specs.BySource.{on_wire_from, registers_from, registers_to, by_source, by_reader}
use Rattle.retiming.specs.Preview.{own_lead, largest_lead_of, measured, size_of, source_bytes, previewed, preview_file}

-- reading and checking, writing, leads, rewriting, the late start, preview, runs
unfoldable pub computing : ℕ
unfolding checking encode node_content table_content operate spelled contents_in contents_at port_of outputs_of async_here register_here asked relax leads_after leads lead closed_debt owing_port grown debt_stages debt_verdict root_in passed_in root passed own_here memory_at word_from stays old_on registers_on count_on new_tables new_table reset_word copy_on copies_at copies_of copies wires_of wires_all wire_places wire_number entries_of regs_on entry_places reg_places places number_of along new_source node_of rewritten_with timing_by timing rewritten rewriter_verdict rewritten_file written rewrite_file first_on last_on shown_on steers_on steers_of chain_length pick_pair picks_on chain_spots pick_spots spots spot_number picked chained gated_source spot_node gated_with at_output late_ends origin onward first_lead asked_to relax_to leads_to_after leads_to lead_to closed_debt_to owing_port_to timing_to_by timing_to late_timing table_number renumbered trimmed late_started late_stages late_verdict late_file_verdict late_file late_rewrite own_lead largest_lead_of on_wire_from registers_from registers_to by_source by_reader measured size_of source_bytes previewed preview_file holder_of contents_now again round words_after words reset_state next_state run_outputs run_state state_at run_word zero_word input_widths output_widths state_widths fitting reset_net reset_file run_net run_file runs_file state_bytes state_after entries run_list_file
computing = 0
