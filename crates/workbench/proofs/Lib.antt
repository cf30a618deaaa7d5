mod ChannelLaws
